-- Parts with separators between them: the reader accepts exactly their form.
use Rattle.policy_text_defs.proofs.Prelude.{List, ℕ, [], refl, ◌≡◌, ◌∷◌, Some, ◌++◌, subst, sym, None, arith, ◌≤◌, ◌∙◌, Option, ap, suc, zero, length, ◌<◌, append_assoc, length-append, append-nil, Glyph, ahead, pure, Reader, repeated}
use Rattle.policy_text_defs.specs.StatementReading.{many}
use Rattle.policy_text_defs.specs.Tests.{Separated, last_part, more_parts}
use Rattle.policy_text_defs.specs.TestReading.{part_last, separated}
use Rattle.policy_text_defs.proofs.StepLaws.{With, steps, same_value, same_rest, stands, ahead_at}
use Rattle.policy_text_defs.proofs.RepeatLaws.{Leads, Goes, no_step, onward, repeated_ends, repeated_more, many_was, leads_shrink}

-- a reader accepts exactly a form, before tokens that may follow it
pub record Accepts {A : Type 0} (Is : List Glyph → A → Type 0) (Ends : List Glyph → Type 0) (read : Reader A) : Type 0 where
  pub sound : (gs left : List Glyph) (a : A) → read gs ≡ Some (a, left) → With Is gs a left
  pub again : (ts rest : List Glyph) (a : A) → Is ts a → Ends rest → read (ts ++ rest) ≡ Some (a, rest)

-- {SEPARATOR PART}
data Further {A : Type 0} (Part : List Glyph → A → Type 0) (s : Glyph) : List Glyph → List A → Type 0 where
  no_further : Further Part s [] []
  further : (ts us : List Glyph) (a : A) (cs : List A) → Part ts a → Further Part s us cs → Further Part s (s ∷ ts ++ us) (a ∷ cs)

-- one part follows
record IsFurther {A : Type 0} (Part : List Glyph → A → Type 0) (s : Glyph) (acc : List A) (ts : List Glyph) (b : List A) : Type 0 where
  part : A
  rest : List Glyph
  tokens : ts ≡ s ∷ rest
  is : Part rest part
  same : acc ++ part ∷ [] ≡ b

-- parts follow
record MoreParts {A : Type 0} (Part : List Glyph → A → Type 0) (s : Glyph) (acc : List A) (ts : List Glyph) (b : List A) : Type 0 where
  parts : List A
  are : Further Part s ts parts
  same : acc ++ parts ≡ b

module _ {A : Type 0} {Part : List Glyph → A → Type 0} (s : Glyph) where
  in_a_row : (ts us : List Glyph) (a : A) (cs : List A) → Part ts a → Further Part s us cs → Separated Part s (ts ++ us) (a ∷ cs)
  in_a_row ts us a cs is no_further = subst (λ l. Separated Part s l (a ∷ [])) (sym (append-nil ts)) (last_part ts a is)
  in_a_row ts us a cs is (further vs ws b bs next on) = more_parts ts (vs ++ ws) a (b ∷ bs) is (in_a_row vs ws b bs next on)

  follow : (a b : List A) (ts : List Glyph) → Goes (IsFurther Part s) a ts b → MoreParts Part s a ts b
  follow a b ts (no_step _) = record { parts = []; are = no_further; same = append-nil a }
  follow a b ts (onward us vs _ c _ is on) =
      let later = follow c b vs on in
      let P : List Glyph → Type 0 = λ l. Further Part s (l ++ vs) (is.part ∷ later.parts) in
      record { parts = is.part ∷ later.parts; are = subst P (sym is.tokens) (further is.rest vs is.part later.parts is.is later.are); same = sym (append_assoc a (is.part ∷ []) later.parts) ∙ ap (λ l. l ++ later.parts) is.same ∙ later.same }

  module _ {Ends : List Glyph → Type 0} {part : Reader A} (take : Glyph → Option (Unit {0})) (taken : take s ≡ Some tt) (only : (g : Glyph) (u : Unit {0}) → take g ≡ Some u → g ≡ s) (exact : Accepts Part Ends part) where
    further_was : (u : Unit {0}) (a b : List A) (gs hs is : List Glyph) → ahead take gs ≡ Some (u, hs) → part_last part u a hs ≡ Some (b, is) → Leads (IsFurther Part s) a gs b is
    further_was u a b gs hs is found e =
        let stand = stands take gs hs u found in
        let first = steps (part hs) (λ c. pure (a ++ c ∷ [])) b is e in
        let was = exact.sound hs first.left first.value first.read in
        let behind : hs ≡ was.front ++ is = was.split ∙ ap (λ l. was.front ++ l) (same_rest (a ++ first.value ∷ []) b first.left is first.next) in
        let begun : gs ≡ s ∷ hs = stand.split ∙ ap (λ g. g ∷ hs) (only stand.glyph u stand.is) in
        record { front = s ∷ was.front; split = begun ∙ ap (λ l. s ∷ l) behind; is = record { part = first.value; rest = was.front; tokens = refl; is = was.is; same = same_value (a ++ first.value ∷ []) b first.left is first.next } }

    separated_was : (gs left : List Glyph) (cs : List A) → separated take part gs ≡ Some (cs, left) → With (Separated Part s) gs cs left
    unfolding separated
    separated_was gs left cs e =
        let first = steps _ _ _ _ e in
        let was = exact.sound gs first.left first.value first.read in
        let leads = many_was _ _ further_was (first.value ∷ []) cs first.left left first.next in
        let more = follow (first.value ∷ []) cs leads.front leads.is in
        record { front = was.front ++ leads.front; split = was.split ∙ ap (λ l. was.front ++ l) leads.split ∙ sym (append_assoc was.front leads.front left); is = subst (Separated Part s (was.front ++ leads.front)) more.same (in_a_row was.front leads.front first.value more.parts was.is more.are) }

    -- a separator and a part are tokens
    pub part_shrinks : (u : Unit {0}) (a b : List A) (gs hs is : List Glyph) → ahead take gs ≡ Some (u, hs) → part_last part u a hs ≡ Some (b, is) → length is < length gs
    part_shrinks u a b gs hs is found e = let l = further_was u a b gs hs is found e in leads_shrink a b gs is l (let some : length l.front ≡ suc (length l.is.rest) = ap length l.is.tokens in omega arith)

    last_reads : (acc : List A) (ts rest : List Glyph) (a : A) → Part ts a → Ends rest → part_last part tt acc (ts ++ rest) ≡ Some (acc ++ a ∷ [], rest)
    last_reads acc ts rest a is end = rw (exact.again ts rest a is end) refl

    module _ (stops : (gs : List Glyph) → Ends (s ∷ gs)) where
      further_read : (acc cs : List A) (us rest : List Glyph) (k : ℕ) → Separated Part s us cs → Ends rest → ahead take rest ≡ None → length (s ∷ (us ++ rest)) ≤ k → repeated (ahead take) (part_last part) k acc (s ∷ (us ++ rest)) ≡ Some (acc ++ cs, rest)
      further_read acc cs us rest zero are end none enough = absurd (omega arith)
      further_read acc cs us rest (suc k) (last_part _ a is) end none enough =
          repeated_more _ _ k tt acc (acc ++ a ∷ []) (s ∷ (us ++ rest)) (us ++ rest) rest (ahead_at take s (us ++ rest) tt taken) (last_reads acc us rest a is end)
          ∙ repeated_ends _ _ k (acc ++ a ∷ []) rest none
      further_read acc cs us rest (suc k) (more_parts ts vs a bs is on) end none enough =
          let turned : (ts ++ s ∷ vs) ++ rest ≡ ts ++ s ∷ (vs ++ rest) = append_assoc ts (s ∷ vs) rest in
          let one = ap (part_last part tt acc) turned ∙ last_reads acc ts (s ∷ (vs ++ rest)) a is (stops (vs ++ rest)) in
          let less : length (s ∷ (vs ++ rest)) ≤ k = omega (arith, ap length turned, length-append ts (s ∷ (vs ++ rest))) in
          repeated_more _ _ k tt acc (acc ++ a ∷ []) (s ∷ ((ts ++ s ∷ vs) ++ rest)) ((ts ++ s ∷ vs) ++ rest) (s ∷ (vs ++ rest)) (ahead_at take s ((ts ++ s ∷ vs) ++ rest) tt taken) one
          ∙ further_read (acc ++ a ∷ []) bs vs rest k on end none less
          ∙ ap (λ l. Some (l, rest)) (append_assoc acc (a ∷ []) bs)

      separated_again : (ts rest : List Glyph) (cs : List A) → Separated Part s ts cs → Ends rest × (ahead take rest ≡ None) → separated take part (ts ++ rest) ≡ Some (cs, rest)
      unfolding separated many
      separated_again ts rest cs (last_part _ a is) end = rw (exact.again ts rest a is end.0) (repeated_ends _ _ (length rest) (a ∷ []) rest end.1)
      separated_again gs rest cs (more_parts ts vs a bs is on) end =
          rw (append_assoc ts (s ∷ vs) rest, exact.again ts (s ∷ (vs ++ rest)) a is (stops (vs ++ rest))) (further_read (a ∷ []) bs vs rest (length (s ∷ (vs ++ rest))) on end.0 end.1 (omega arith))

      pub Separated-exact : Accepts (Separated Part s) (λ rest. Ends rest × (ahead take rest ≡ None)) (separated take part)
      Separated-exact = record { sound = separated_was; again = separated_again }
