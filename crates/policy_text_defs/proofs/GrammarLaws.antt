-- The reader accepts exactly the grammar.
use Rattle.policy_text_defs.proofs.Prelude.{List, ℕ, [], refl, ◌≡◌, ◌∷◌, Some, ◌++◌, subst, Bool, true, false, sym, None, arith, ◌≤◌, ◌∙◌, Option, ap, suc, zero, leb, append_assoc, ◌+◌, leb-true, le-leb, Op, Glyph, Form, GoesOn, ends, grouped, more, Grouped, Phrase, two, depth, most_depth, ahead, pick, pure, Reader, ◌>>=◌, refuse, and_then}
use Rattle.std.proofs.Common.{max}
use Rattle.policy_text_defs.specs.Reading.{limited, chain}
use Rattle.policy_text_defs.proofs.ChainLemmas.{limited_by, chain_ends}
use Rattle.policy_text_defs.proofs.StepLaws.{steps, stands, ahead_at}

-- a prefix of the tokens is a form of the term, before the rest
pub record Begins (Is : Form) (gs : List Glyph) (a : Phrase) (rest : List Glyph) : Type 0 where
  pub front : List Glyph
  pub split : gs ≡ front ++ rest
  pub is : Is front a
  pub low : depth a ≤ most_depth

pub low_along : (t c : Phrase) → t ≡ c → depth t ≤ most_depth → depth c ≤ most_depth
low_along t c same low = subst (λ p. depth p ≤ most_depth) same low

-- reading from the left gives exactly the form, if the tokens after it can't belong to it
pub record Exact (Is : Form) (Ends : List Glyph → Type 0) (read : Reader Phrase) : Type 0 where
  pub sound : (gs rest : List Glyph) (a : Phrase) → read gs ≡ Some (a, rest) → Begins Is gs a rest
  pub again : (ts rest : List Glyph) (a : Phrase) → Is ts a → depth a ≤ most_depth → Ends rest → read (ts ++ rest) ≡ Some (a, rest)

-- the part before the operators isn't deeper than the whole
pub GoesOn-rises : {op : Glyph → Option Op} {Part : Form} (a c : Phrase) (us : List Glyph) → GoesOn op Part a us c → depth a ≤ depth c
GoesOn-rises a c us (ends _) = omega arith
GoesOn-rises a c us (more o g ts vs _ b _ is part on) = let later = GoesOn-rises (two o a b) c vs on in let deeper : depth (two o a b) ≡ suc (max (depth a) (depth b)) = refl in omega arith

-- the limit lets a term through that isn't too deep
pub limited_low : (t : Phrase) (gs : List Glyph) → depth t ≤ most_depth → limited t gs ≡ Some (t, gs)
unfolding limited
limited_low t gs low = ap (λ v. limited_by v t gs) (le-leb (depth t) most_depth low)

pub record Passed (t c : Phrase) (gs hs : List Glyph) : Type 0 where
  pub low : depth t ≤ most_depth
  pub same : t ≡ c
  pub left : gs ≡ hs

passed_case : (v : Bool) (t c : Phrase) (gs hs : List Glyph) → leb (depth t) most_depth ≡ v → limited_by v t gs ≡ Some (c, hs) → Passed t c gs hs
passed_case true t c gs hs is e = record { low = leb-true (depth t) most_depth is; same = ap (λ v. pick v t (λ p. p.0)) e; left = ap (λ v. pick v gs (λ p. p.1)) e }
passed_case false t c gs hs is e = absurd cc

pub passed : (t c : Phrase) (gs hs : List Glyph) → limited t gs ≡ Some (c, hs) → Passed t c gs hs
unfolding limited
passed t c gs hs e = passed_case (leb (depth t) most_depth) t c gs hs refl e

-- a prefix of the tokens continues the chain up to the term
pub record Chained (op : Glyph → Option Op) (Part : Form) (gs : List Glyph) (a c : Phrase) (rest : List Glyph) : Type 0 where
  pub front : List Glyph
  pub split : gs ≡ front ++ rest
  pub on : GoesOn op Part a front c
  pub low : depth c ≤ most_depth

chain_step : (op : Glyph → Option Op) (read : Reader Phrase) (k : ℕ) (a b : Phrase) (o : Op) (gs hs is : List Glyph) → ahead op gs ≡ Some (o, hs) → read hs ≡ Some (b, is) → limited (two o a b) is ≡ Some (two o a b, is) → chain op read (suc k) a gs ≡ chain op read k (two o a b) is
unfolding chain
chain_step op read k a b o gs hs is operated reads low = rw (operated, reads, low) refl

module _ {op : Glyph → Option Op} {Part : Form} {PartEnds : List Glyph → Type 0} {read : Reader Phrase} (exact : Exact Part PartEnds read) where
  -- ---- each form of the grammar is read

  ends_before : (a c : Phrase) (us rest : List Glyph) → ((g : Glyph) (o : Op) (gs : List Glyph) → op g ≡ Some o → PartEnds (g ∷ gs)) → GoesOn op Part a us c → PartEnds rest → PartEnds (us ++ rest)
  ends_before a c us rest stop (ends _) end = end
  ends_before a c us rest stop (more o g ts vs _ b _ is part on) end = stop g o ((ts ++ vs) ++ rest) is

  chain-again : ((g : Glyph) (o : Op) (gs : List Glyph) → op g ≡ Some o → PartEnds (g ∷ gs)) → (k : ℕ) (us rest : List Glyph) (a c : Phrase) → GoesOn op Part a us c → depth c ≤ most_depth → most_depth ≤ k + depth a → PartEnds rest → ahead op rest ≡ None → chain op read k a (us ++ rest) ≡ Some (c, rest)
  chain-again stop k us rest a c (ends _) low enough end none = chain_ends op read k a rest none
  chain-again stop zero us rest a c (more o g ts vs _ b _ is part on) low enough end none = let later = GoesOn-rises (two o a b) c vs on in let deeper : depth (two o a b) ≡ suc (max (depth a) (depth b)) = refl in absurd (omega arith)
  chain-again stop (suc k) us rest a c (more o g ts vs _ b _ is part on) low enough end none =
      let later = GoesOn-rises (two o a b) c vs on in
      let deeper : depth (two o a b) ≡ suc (max (depth a) (depth b)) = refl in
      let part_low : depth b ≤ most_depth = omega arith in
      let pair_low : depth (two o a b) ≤ most_depth = omega arith in
      let pair_enough : most_depth ≤ k + depth (two o a b) = omega arith in
      let reads : read ((ts ++ vs) ++ rest) ≡ Some (b, vs ++ rest) = ap read (append_assoc ts vs rest) ∙ exact.again ts (vs ++ rest) b part part_low (ends_before (two o a b) c vs rest stop on end) in
      chain_step op read k a b o (g ∷ ((ts ++ vs) ++ rest)) ((ts ++ vs) ++ rest) (vs ++ rest) (ahead_at op g _ o is) reads (limited_low (two o a b) (vs ++ rest) pair_low)
      ∙ chain-again stop k vs rest (two o a b) c on low pair_enough end none

  -- ---- each result of reading is in the grammar

  chained_end : (gs rest : List Glyph) (a c : Phrase) → depth a ≤ most_depth → pure a gs ≡ Some (c, rest) → Chained op Part gs a c rest
  chained_end gs rest a c low e = record { front = []; split = ap (λ v. pick v gs (λ p. p.1)) e; on = subst (GoesOn op Part a []) (ap (λ v. pick v a (λ p. p.0)) e) (ends a); low = low_along a c (ap (λ v. pick v a (λ p. p.0)) e) low }

  chained_more : (k : ℕ) → ((gs rest : List Glyph) (a c : Phrase) → depth a ≤ most_depth → chain op read k a gs ≡ Some (c, rest) → Chained op Part gs a c rest) → (gs hs rest : List Glyph) (o : Op) (a c : Phrase) → ahead op gs ≡ Some (o, hs) → (read >>= (λ b. limited (two o a b) >>= chain op read k)) hs ≡ Some (c, rest) → Chained op Part gs a c rest
  chained_more k later gs hs rest o a c operated e =
      let stand = stands op gs hs o operated in
      let first = steps (read hs) (λ b. limited (two o a b) >>= chain op read k) c rest e in
      let second = steps (limited (two o a first.value) first.left) (chain op read k) c rest first.next in
      let pass = passed (two o a first.value) second.value first.left second.left second.read in
      let on = later second.left rest second.value c (low_along (two o a first.value) second.value pass.same pass.low) second.next in
      let part = exact.sound hs first.left first.value first.read in
      let tail : first.left ≡ on.front ++ rest = pass.left ∙ on.split in
      let behind : hs ≡ (part.front ++ on.front) ++ rest = part.split ∙ ap (λ l. part.front ++ l) tail ∙ sym (append_assoc part.front on.front rest) in
      record { front = stand.glyph ∷ part.front ++ on.front; split = stand.split ∙ ap (λ l. stand.glyph ∷ l) behind; on = more o stand.glyph part.front on.front a first.value c stand.is part.is (subst (λ t. GoesOn op Part t on.front c) (sym pass.same) on.on); low = on.low }

  chained_case : (k : ℕ) → ((gs rest : List Glyph) (a c : Phrase) → depth a ≤ most_depth → chain op read k a gs ≡ Some (c, rest) → Chained op Part gs a c rest) → (gs rest : List Glyph) (a c : Phrase) (found : Option (Op × List Glyph)) → depth a ≤ most_depth → ahead op gs ≡ found → pick found (pure a gs) (λ o. (read >>= (λ b. limited (two o.0 a b) >>= chain op read k)) o.1) ≡ Some (c, rest) → Chained op Part gs a c rest
  chained_case k later gs rest a c None low is e = chained_end gs rest a c low e
  chained_case k later gs rest a c (Some p) low is e = chained_more k later gs p.1 rest p.0 a c is e

  chained_last : (gs rest : List Glyph) (a c : Phrase) (found : Option (Op × List Glyph)) → depth a ≤ most_depth → pick found (pure a gs) (λ _. refuse gs) ≡ Some (c, rest) → Chained op Part gs a c rest
  chained_last gs rest a c None low e = chained_end gs rest a c low e
  chained_last gs rest a c (Some p) low e = absurd cc

  chain-sound : (k : ℕ) (gs rest : List Glyph) (a c : Phrase) → depth a ≤ most_depth → chain op read k a gs ≡ Some (c, rest) → Chained op Part gs a c rest
  unfolding chain
  chain-sound zero gs rest a c low e = chained_last gs rest a c (ahead op gs) low e
  chain-sound (suc k) gs rest a c low e = chained_case k (chain-sound k) gs rest a c (ahead op gs) low refl e

  grouped_sound : (gs rest : List Glyph) (c : Phrase) → (read >>= chain op read most_depth) gs ≡ Some (c, rest) → Begins (Grouped op Part) gs c rest
  grouped_sound gs rest c e =
      let both = steps (read gs) (chain op read most_depth) c rest e in
      let part = exact.sound gs both.left both.value both.read in
      let on = chain-sound most_depth both.left rest both.value c part.low both.next in
      record { front = part.front ++ on.front; split = part.split ∙ ap (λ l. part.front ++ l) on.split ∙ sym (append_assoc part.front on.front rest); is = grouped part.front on.front both.value c part.is on.on; low = on.low }

  grouped_again : ((g : Glyph) (o : Op) (gs : List Glyph) → op g ≡ Some o → PartEnds (g ∷ gs)) → (ts rest : List Glyph) (c : Phrase) → Grouped op Part ts c → depth c ≤ most_depth → PartEnds rest × (ahead op rest ≡ None) → (read >>= chain op read most_depth) (ts ++ rest) ≡ Some (c, rest)
  grouped_again stop ts rest c (grouped us vs a _ part on) low end =
      let later = GoesOn-rises a c vs on in
      let part_low : depth a ≤ most_depth = omega arith in
      let enough : most_depth ≤ most_depth + depth a = omega arith in
      let reads : read ((us ++ vs) ++ rest) ≡ Some (a, vs ++ rest) = ap read (append_assoc us vs rest) ∙ exact.again us (vs ++ rest) a part part_low (ends_before a c vs rest stop on end.0) in
      let first : (read >>= chain op read most_depth) ((us ++ vs) ++ rest) ≡ chain op read most_depth a (vs ++ rest) = ap (λ v. and_then v (chain op read most_depth)) reads in
      first ∙ chain-again stop most_depth vs rest a c on low enough end.0 end.1

  -- a group is read exactly, if its operators end its parts
  pub Grouped-exact : ((g : Glyph) (o : Op) (gs : List Glyph) → op g ≡ Some o → PartEnds (g ∷ gs)) → Exact (Grouped op Part) (λ rest. PartEnds rest × (ahead op rest ≡ None)) (read >>= chain op read most_depth)
  Grouped-exact stop = record { sound = grouped_sound; again = grouped_again stop }
