-- One turn of a chain of operators and parts.
use Rattle.policy_text_defs.proofs.Prelude.{List, ℕ, refl, ◌≡◌, Some, Bool, true, false, sym, None, arith, ◌≤◌, ◌∙◌, Option, ap, suc, cond, zero, leb, ◌<◌, ◌+◌, ◌-◌, leb-true, Op, Glyph, Phrase, two, depth, most_depth, ahead, pick, Outcome, Reader, ◌>>=◌, atom_at, expression, next, inside}
use Rattle.std.proofs.Common.{max}
use Rattle.policy_text_defs.specs.Reading.{limited, chain, atom}

abbrev pub limited_by : Bool → Phrase → Reader Phrase
limited_by v t gs = cond v (Some (t, gs)) None

-- the result of the whole reading is the result of this chain, given enough turns
pub record TurnsOn (op : Glyph → Option Op) (part : Reader Phrase) (whole : Outcome Phrase) (a : Phrase) (gs : List Glyph) : Type 0 where
  pub turns : ℕ
  pub enough : most_depth ≤ turns + depth a
  pub same : whole ≡ chain op part turns a gs

-- an atom, for any number of parentheses that may still be opened
pub atom_next : (room : ℕ) (gs : List Glyph) → atom room gs ≡ (next >>= atom_at (inside room)) gs
unfolding atom
atom_next zero gs = refl
atom_next (suc room) gs = refl

pub inside_more : (room : ℕ) (gs : List Glyph) → 0 < room → inside room gs ≡ expression (atom (room - 1)) gs
inside_more zero gs some = absurd (omega arith)
inside_more (suc room) gs some = let same : suc room - 1 ≡ room = omega arith in ap (λ n. expression (atom n) gs) (sym same)

-- a chain ends if no operator follows
pub chain_ends : (op : Glyph → Option Op) (part : Reader Phrase) (k : ℕ) (a : Phrase) (gs : List Glyph) → ahead op gs ≡ None → chain op part k a gs ≡ Some (a, gs)
unfolding chain
chain_ends op part zero a gs none = ap (λ o. pick o (Some (a, gs)) (λ _. None)) none
chain_ends op part (suc k) a gs none = ap (λ o. pick o (Some (a, gs)) (λ o. (part >>= (λ b. limited (two o.0 a b) >>= chain op part k)) o.1)) none

limited_case : (v : Bool) (t c : Phrase) (gs : List Glyph) → limited_by v t gs ≡ Some (c, gs) → (v ≡ true) × (t ≡ c)
limited_case true t c gs e = (refl, ap (λ v. pick v t (λ p. p.0)) e)
limited_case false t c gs e = absurd cc

-- a term that the limit lets through
pub limited_some : (t c : Phrase) (gs : List Glyph) → limited t gs ≡ Some (c, gs) → (depth t ≤ most_depth) × (t ≡ c)
unfolding limited
limited_some t c gs e = let both = limited_case (leb (depth t) most_depth) t c gs e in (leb-true (depth t) most_depth both.0, both.1)

-- a turn, by the number of turns left
more_from : (op : Glyph → Option Op) (part : Reader Phrase) (k : ℕ) (whole : Outcome Phrase) (a b c : Phrase) (o : Op) (gs hs is : List Glyph) → most_depth ≤ k + depth a → whole ≡ chain op part k a gs → ahead op gs ≡ Some (o, hs) → part hs ≡ Some (b, is) → limited (two o a b) is ≡ Some (c, is) → TurnsOn op part whole c is
unfolding chain
more_from op part zero whole a b c o gs hs is enough same operated read low = let fits : suc (max (depth a) (depth b)) ≤ most_depth = (limited_some (two o a b) c is low).0 in absurd (omega arith)
more_from op part (suc k) whole a b c o gs hs is enough same operated read low =
    let is_pair : two o a b ≡ c = (limited_some (two o a b) c is low).1 in
    let deeper : suc (max (depth a) (depth b)) ≡ depth c = ap depth is_pair in
    record { turns = k; enough = omega arith; same = same ∙ rw (operated, read, low) refl }

-- If an operator follows, and then a part that doesn't make the term too deep, the chain goes on.
pub chain_more : (op : Glyph → Option Op) (part : Reader Phrase) (whole : Outcome Phrase) (a b c : Phrase) (o : Op) (gs hs is : List Glyph) → TurnsOn op part whole a gs → ahead op gs ≡ Some (o, hs) → part hs ≡ Some (b, is) → limited (two o a b) is ≡ Some (c, is) → TurnsOn op part whole c is
chain_more op part whole a b c o gs hs is before operated read low = more_from op part before.turns whole a b c o gs hs is before.enough before.same operated read low

stuck_from : (op : Glyph → Option Op) (part : Reader Phrase) (k : ℕ) (a : Phrase) (o : Op) (gs hs : List Glyph) → ahead op gs ≡ Some (o, hs) → part hs ≡ None → chain op part k a gs ≡ None
unfolding chain
stuck_from op part zero a o gs hs operated none = rw operated refl
stuck_from op part (suc k) a o gs hs operated none = rw (operated, none) refl

-- if no part follows the operator, or the term would be too deep, nothing is read
pub chain_stuck : (op : Glyph → Option Op) (part : Reader Phrase) (whole : Outcome Phrase) (a : Phrase) (o : Op) (gs hs : List Glyph) → TurnsOn op part whole a gs → ahead op gs ≡ Some (o, hs) → part hs ≡ None → whole ≡ None
chain_stuck op part whole a o gs hs before operated none = before.same ∙ stuck_from op part before.turns a o gs hs operated none

deep_from : (op : Glyph → Option Op) (part : Reader Phrase) (k : ℕ) (a b : Phrase) (o : Op) (gs hs is : List Glyph) → ahead op gs ≡ Some (o, hs) → part hs ≡ Some (b, is) → limited (two o a b) is ≡ None → chain op part k a gs ≡ None
unfolding chain
deep_from op part zero a b o gs hs is operated read deep = rw operated refl
deep_from op part (suc k) a b o gs hs is operated read deep = rw (operated, read, deep) refl

pub chain_deep : (op : Glyph → Option Op) (part : Reader Phrase) (whole : Outcome Phrase) (a b : Phrase) (o : Op) (gs hs is : List Glyph) → TurnsOn op part whole a gs → ahead op gs ≡ Some (o, hs) → part hs ≡ Some (b, is) → limited (two o a b) is ≡ None → whole ≡ None
chain_deep op part whole a b o gs hs is before operated read deep = before.same ∙ deep_from op part before.turns a b o gs hs is operated read deep
