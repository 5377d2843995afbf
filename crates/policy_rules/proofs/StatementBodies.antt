-- Statements have sound bodies if no clause up to the limits rejects them.
use Rattle.policy_rules.proofs.Prelude.{◌∙◌, ap, List, ◌≡◌, sym, ℕ, [], ◌∷◌, refl, ◌++◌, take, false, Bool, length, subst, true, not, ◌+◌, arith, ◌<◌, get_or, true≢false, cond, drop, false_from_ne_true, length-append, append_assoc, take-append-drop, drop_more, get_or_at, take_at, take_while-cons, AllByRecursion, All, Entry, Sense, class, filtered, pop, push, transaction, version, each, keep, leaf, node, IsValid, AreFew, open_body, bodies, is_body, opened, IsSoundBody, AreSoundBehind, IsSoundLine, is_declared, is_one_too_many, is_known, AreRising, before}
use Rattle.std.specs.Prelude.{take_while}
use Rattle.policy_rules.proofs.EarlierLines.{before-take}
use Rattle.policy_rules.proofs.Lists.{all-append}
use Rattle.policy_rules.proofs.OpenBodies.{open_body-line, open_body-opened}
use Rattle.policy_rules.proofs.SoundBodies.{AreBody, AreBody-push, body_line, open_own}

-- ---- a line of a body is checked alike after lines with the same open body

module _ (a b : List Entry) (same : open_body a ≡ open_body b) where
  declared_alike : (s : Sense) → is_body s ≡ true → is_declared b s ≡ is_declared a s
  declared_alike (keep n s) is = rw same refl
  declared_alike (each n s) is = rw same refl
  declared_alike (push n t) is = refl
  declared_alike (pop n t) is = refl
  declared_alike (version v) is = absurd (true≢false (sym is))
  declared_alike (transaction n) is = absurd (true≢false (sym is))
  declared_alike (class n c cs) is = absurd (true≢false (sym is))
  declared_alike (filtered n c cs) is = absurd (true≢false (sym is))
  declared_alike (leaf n u c q ns) is = absurd (true≢false (sym is))
  declared_alike (node n u c q ns) is = absurd (true≢false (sym is))

  known_alike : (es : List Entry) (s : Sense) → is_body s ≡ true → is_known [] b s ≡ is_known es a s
  known_alike es (keep n s) is = refl
  known_alike es (each n s) is = refl
  known_alike es (push n t) is = rw same refl
  known_alike es (pop n t) is = rw same refl
  known_alike es (version v) is = absurd (true≢false (sym is))
  known_alike es (transaction n) is = absurd (true≢false (sym is))
  known_alike es (class n c cs) is = absurd (true≢false (sym is))
  known_alike es (filtered n c cs) is = absurd (true≢false (sym is))
  known_alike es (leaf n u c q ns) is = absurd (true≢false (sym is))
  known_alike es (node n u c q ns) is = absurd (true≢false (sym is))

  beyond_alike : (s : Sense) → is_body s ≡ true → is_one_too_many b s ≡ is_one_too_many a s
  beyond_alike (keep n s) is = rw same refl
  beyond_alike (each n s) is = rw same refl
  beyond_alike (push n t) is = rw same refl
  beyond_alike (pop n t) is = rw same refl
  beyond_alike (version v) is = absurd (true≢false (sym is))
  beyond_alike (transaction n) is = absurd (true≢false (sym is))
  beyond_alike (class n c cs) is = absurd (true≢false (sym is))
  beyond_alike (filtered n c cs) is = absurd (true≢false (sym is))
  beyond_alike (leaf n u c q ns) is = absurd (true≢false (sym is))
  beyond_alike (node n u c q ns) is = absurd (true≢false (sym is))

-- ---- a line between some lines and others

module _ (es pre rest : List Entry) (e : Entry) (is : es ≡ pre ++ e ∷ rest) where
  within_es : length pre < length es
  within_es = subst (λ (l : List Entry). length pre < length l) (sym is) (omega (arith, length-append pre (e ∷ rest)))

  at : get_or es (length pre) e ≡ e
  at = ap (λ (l : List Entry). get_or l (length pre) e) is ∙ get_or_at pre e rest e (length pre) refl

  pub here : (P : Entry → Type 0) → All P es → P e
  here P all = subst P at (all (length pre) e within_es)

  pub before_is : AreRising es → before e.0 es ≡ pre
  before_is rising = ap (λ (f : Entry). before f.0 es) (sym at) ∙ before-take es (length pre) e rising within_es ∙ ap (take (length pre)) is ∙ take_at pre (e ∷ rest) (length pre) refl

  sound_line : (earlier : List Entry) → AreRising es → AreFew es → All (λ f. IsValid f.1) es → AreBody earlier → open_body pre ≡ earlier → is_body e.1 ≡ true → IsSoundLine earlier e
  sound_line earlier rising few valid all own body =
      let same : open_body pre ≡ open_body earlier = own ∙ sym (open_own earlier all) in
      record {
        body = body;
        new = declared_alike pre earlier same e.1 body ∙ ap (λ (l : List Entry). is_declared l e.1) (sym (before_is rising)) ∙ false_from_ne_true _ (here (λ f. ¬ (is_declared (before f.0 es) f.1 ≡ true)) few.0.0.1);
        known = known_alike pre earlier same es e.1 body ∙ ap (λ (l : List Entry). is_known es l e.1) (sym (before_is rising)) ∙ not_false (is_known es (before e.0 es) e.1) (here (λ f. ¬ (not (is_known es (before f.0 es) f.1) ≡ true)) few.0.1);
        few = beyond_alike pre earlier same e.1 body ∙ ap (λ (l : List Entry). is_one_too_many l e.1) (sym (before_is rising)) ∙ false_from_ne_true _ (here (λ f. ¬ (is_one_too_many (before f.0 es) f.1 ≡ true)) few.1);
        valid = here (λ f. IsValid f.1) valid;
      }
    where
      not_false : (b : Bool) → ¬ (not b ≡ true) → b ≡ true
      not_false true other = refl
      not_false false other = absurd (other refl)

front_case : (earlier rest : List Entry) (e : Entry) (b : Bool) → (b ≡ true → IsSoundLine earlier e) → (b ≡ true → AreSoundBehind (earlier ++ e ∷ []) (take_while (λ f. is_body f.1) rest))
    → AreSoundBehind earlier (cond b (e ∷ take_while (λ f. is_body f.1) rest) [])
front_case earlier rest e true first later = (first refl, later refl)
front_case earlier rest e false first later = tt

module _ (es : List Entry) (rising : AreRising es) (few : AreFew es) (valid : All (λ f. IsValid f.1) es) where
  sound_front : (pre rest earlier : List Entry) → es ≡ pre ++ rest → AreBody earlier → open_body pre ≡ earlier → AreSoundBehind earlier (take_while (λ f. is_body f.1) rest)
  sound_front pre [] earlier is all own = tt
  sound_front pre (e ∷ rest) earlier is all own =
      subst (AreSoundBehind earlier) (sym (take_while-cons (λ f. is_body f.1) e rest))
      (front_case earlier rest e (is_body e.1)
      (λ body. sound_line es pre rest e is earlier rising few valid all own body)
      (λ body. sound_front (pre ++ e ∷ []) rest (earlier ++ e ∷ []) (is ∙ sym (append_assoc pre (e ∷ []) rest)) (AreBody-push earlier e all body) (open_body-line pre e (body_line e body) ∙ ap (λ (l : List Entry). l ++ e ∷ []) own)))

  sound_opened : (pre rest : List Entry) (e : Entry) → es ≡ pre ++ e ∷ rest → AllByRecursion (λ b. IsSoundBody b.lines) (opened e.1 rest)
  sound_opened pre rest (n, transaction a) is = (sound_front (pre ++ (n, transaction a) ∷ []) rest [] (is ∙ sym (append_assoc pre ((n, transaction a) ∷ []) rest)) refl (open_body-opened pre (n, transaction a) refl), tt)
  sound_opened pre rest (n, version v) is = tt
  sound_opened pre rest (n, keep a s) is = tt
  sound_opened pre rest (n, each a s) is = tt
  sound_opened pre rest (n, push a t) is = tt
  sound_opened pre rest (n, pop a t) is = tt
  sound_opened pre rest (n, class a c cs) is = tt
  sound_opened pre rest (n, filtered a c cs) is = tt
  sound_opened pre rest (n, leaf a u c q ns) is = tt
  sound_opened pre rest (n, node a u c q ns) is = tt

  -- the body that a line begins
  pub sound_begun : (i : ℕ) (e : Entry) → i < length es → get_or es i e ≡ e → AllByRecursion (λ b. IsSoundBody b.lines) (opened e.1 (drop (i + 1) es))
  sound_begun i e within is = sound_opened (take i es) (drop (i + 1) es) e (sym (take-append-drop i es) ∙ ap (λ (l : List Entry). take i es ++ l) (drop_more es i e within ∙ ap (λ (f : Entry). f ∷ drop (i + 1) es) is))

  sound_bodies : (pre rest : List Entry) → es ≡ pre ++ rest → AllByRecursion (λ b. IsSoundBody b.lines) (bodies rest)
  sound_bodies pre [] is = tt
  sound_bodies pre (e ∷ rest) is = all-append (λ b. IsSoundBody b.lines) (opened e.1 rest) (bodies rest) (sound_opened pre rest e is) (sound_bodies (pre ++ e ∷ []) rest (is ∙ sym (append_assoc pre (e ∷ []) rest)))

  -- all bodies
  pub all_sound : AllByRecursion (λ b. IsSoundBody b.lines) (bodies es)
  all_sound = sound_bodies [] es refl
