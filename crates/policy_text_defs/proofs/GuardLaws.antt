-- Lists of conditions: the reader accepts exactly their form.
use Rattle.policy_text_defs.proofs.Prelude.{List, ℕ, [], refl, ◌≡◌, ◌∷◌, Some, ◌++◌, subst, sym, None, arith, codes, ◌≤◌, ◌∙◌, ap, suc, zero, length, ◌<◌, append_assoc, length-append, append-nil, Glyph, text, ahead, pick, pure, Outcome, word_ahead, repeated, a_condition, condition_last, Guard, IsCondition, guarded, unguarded, Conditions, also, last, Condition}
use Rattle.policy_text_defs.specs.StatementReading.{many, conditions, guard}
use Rattle.policy_text_defs.proofs.StepLaws.{With, steps, same_value, same_rest}
use Rattle.policy_text_defs.proofs.ConditionLaws.{apart_end, apart_word, word_follows, condition_was, condition_reads}
use Rattle.policy_text_defs.proofs.RepeatLaws.{Leads, Goes, no_step, onward, repeated_ends, repeated_more, many_was, leads_shrink}

-- {and COND}
data Further : List Glyph → List Condition → Type 0 where
  no_further : Further [] []
  further : (ts us : List Glyph) (c : Condition) (cs : List Condition) → IsCondition ts c → Further us cs → Further (text (codes "and") ∷ ts ++ us) (c ∷ cs)

joined : (ts us : List Glyph) (c : Condition) (cs : List Condition) → IsCondition ts c → Further us cs → Conditions (ts ++ us) (c ∷ cs)
joined ts us c cs is no_further = subst (λ l. Conditions l (c ∷ [])) (sym (append-nil ts)) (last ts c is)
joined ts us c cs is (further vs ws d ds next on) = also ts (vs ++ ws) c (d ∷ ds) is (joined vs ws d ds next on)

-- one condition follows
record IsFurther (acc : List Condition) (ts : List Glyph) (b : List Condition) : Type 0 where
  condition : Condition
  rest : List Glyph
  tokens : ts ≡ text (codes "and") ∷ rest
  is : IsCondition rest condition
  same : acc ++ condition ∷ [] ≡ b

further_was : (u : Unit {0}) (a b : List Condition) (gs hs is : List Glyph) → ahead (word_ahead (codes "and")) gs ≡ Some (u, hs) → condition_last u a hs ≡ Some (b, is) → Leads IsFurther a gs b is
further_was u a b gs hs is found e =
    let first = steps (a_condition hs) (λ c. pure (a ++ c ∷ [])) b is e in
    let was = condition_was first.value hs first.left first.read in
    let behind : hs ≡ was.front ++ is = was.split ∙ ap (λ l. was.front ++ l) (same_rest (a ++ first.value ∷ []) b first.left is first.next) in
    record { front = text (codes "and") ∷ was.front; split = word_follows (codes "and") gs hs u found ∙ ap (λ l. text (codes "and") ∷ l) behind; is = record { condition = first.value; rest = was.front; tokens = refl; is = was.is; same = same_value (a ++ first.value ∷ []) b first.left is first.next } }

-- conditions follow
record MoreConditions (acc : List Condition) (ts : List Glyph) (b : List Condition) : Type 0 where
  conditions : List Condition
  are : Further ts conditions
  same : acc ++ conditions ≡ b

follow : (a b : List Condition) (ts : List Glyph) → Goes IsFurther a ts b → MoreConditions a ts b
follow a b ts (no_step _) = record { conditions = []; are = no_further; same = append-nil a }
follow a b ts (onward us vs _ c _ is on) =
    let later = follow c b vs on in
    let P : List Glyph → Type 0 = λ l. Further (l ++ vs) (is.condition ∷ later.conditions) in
    record { conditions = is.condition ∷ later.conditions; are = subst P (sym is.tokens) (further is.rest vs is.condition later.conditions is.is later.are); same = sym (append_assoc a (is.condition ∷ []) later.conditions) ∙ ap (λ l. l ++ later.conditions) is.same ∙ later.same }

-- conditions were read
pub record WithConditions (gs : List Glyph) (cs : List Condition) (left : List Glyph) : Type 0 where
  pub front : List Glyph
  pub split : gs ≡ front ++ left
  pub are : Conditions front cs

pub conditions_were : (cs : List Condition) (gs left : List Glyph) → conditions gs ≡ Some (cs, left) → WithConditions gs cs left
unfolding conditions
conditions_were cs gs left e =
    let first = steps _ _ _ _ e in
    let was = condition_was first.value gs first.left first.read in
    let leads = many_was _ _ further_was (first.value ∷ []) cs first.left left first.next in
    let more = follow (first.value ∷ []) cs leads.front leads.is in
    record { front = was.front ++ leads.front; split = was.split ∙ ap (λ l. was.front ++ l) leads.split ∙ sym (append_assoc was.front leads.front left); are = subst (Conditions (was.front ++ leads.front)) more.same (joined was.front leads.front first.value more.conditions was.is more.are) }

guard_case : (cs : List Condition) (gs left : List Glyph) (found : Outcome (Unit {0})) → ahead (word_ahead (codes "when")) gs ≡ found → pick found (pure [] gs) (λ t. conditions t.1) ≡ Some (cs, left) → With Guard gs cs left
guard_case cs gs left None is e = record { front = []; split = same_rest [] cs gs left e; is = subst (Guard []) (same_value [] cs gs left e) unguarded }
guard_case cs gs left (Some t) is e =
    let were = conditions_were cs t.1 left e in
    record { front = text (codes "when") ∷ were.front; split = word_follows (codes "when") gs t.1 t.0 is ∙ ap (λ l. text (codes "when") ∷ l) were.split; is = guarded were.front cs were.are }

pub guard_was : (cs : List Condition) (gs left : List Glyph) → guard gs ≡ Some (cs, left) → With Guard gs cs left
unfolding guard
guard_was cs gs left e = guard_case cs gs left (ahead (word_ahead (codes "when")) gs) refl e

-- ---- each form is read

alone_reads : (ts : List Glyph) (c : Condition) → IsCondition ts c → a_condition ts ≡ Some (c, [])
alone_reads ts c is = ap a_condition (sym (append-nil ts)) ∙ condition_reads ts [] c is apart_end

last_reads : (acc : List Condition) (ts : List Glyph) (c : Condition) → IsCondition ts c → condition_last tt acc ts ≡ Some (acc ++ c ∷ [], [])
last_reads acc ts c is = rw (alone_reads ts c is) refl

also_reads : (acc : List Condition) (ts us : List Glyph) (c : Condition) → IsCondition ts c → condition_last tt acc (ts ++ text (codes "and") ∷ us) ≡ Some (acc ++ c ∷ [], text (codes "and") ∷ us)
also_reads acc ts us c is = rw (condition_reads ts (text (codes "and") ∷ us) c is (apart_word (codes "and") us)) refl

shorter : (ts us : List Glyph) (g : Glyph) → length (g ∷ us) ≤ length (ts ++ g ∷ us)
shorter ts us g = omega (arith, length-append ts (g ∷ us))

further_read : (acc cs : List Condition) (us : List Glyph) (k : ℕ) → Conditions us cs → length (text (codes "and") ∷ us) ≤ k → repeated (ahead (word_ahead (codes "and"))) condition_last k acc (text (codes "and") ∷ us) ≡ Some (acc ++ cs, [])
further_read acc cs us zero are enough = absurd (omega arith)
further_read acc cs us (suc k) (last _ c is) enough =
    repeated_more _ _ k tt acc (acc ++ c ∷ []) (text (codes "and") ∷ us) us [] refl (last_reads acc us c is)
    ∙ repeated_ends _ _ k (acc ++ c ∷ []) [] refl
further_read acc cs us (suc k) (also ts vs c ds is on) enough =
    repeated_more _ _ k tt acc (acc ++ c ∷ []) (text (codes "and") ∷ (ts ++ text (codes "and") ∷ vs)) (ts ++ text (codes "and") ∷ vs) (text (codes "and") ∷ vs) refl (also_reads acc ts vs c is)
    ∙ further_read (acc ++ c ∷ []) ds vs k on (let less = shorter ts vs (text (codes "and")) in omega arith)
    ∙ ap (λ l. Some (l, [])) (append_assoc acc (c ∷ []) ds)

read_conditions : (cs : List Condition) (ts : List Glyph) → Conditions ts cs → conditions ts ≡ Some (cs, [])
unfolding conditions many
read_conditions cs ts (last _ c is) = rw (alone_reads ts c is) (repeated_ends _ _ 0 (c ∷ []) [] refl)
read_conditions cs ts (also us vs c ds is on) =
    rw (condition_reads us (text (codes "and") ∷ vs) c is (apart_word (codes "and") vs)) (further_read (c ∷ []) ds vs (length (text (codes "and") ∷ vs)) on (omega arith))

pub read_guard : (cs : List Condition) (ts : List Glyph) → Guard ts cs → guard ts ≡ Some (cs, [])
unfolding guard
read_guard cs ts unguarded = refl
read_guard cs ts (guarded us _ are) = read_conditions cs us are

pub condition_shrinks : (u : Unit {0}) (a b : List Condition) (gs hs is : List Glyph) → ahead (word_ahead (codes "and")) gs ≡ Some (u, hs) → condition_last u a hs ≡ Some (b, is) → length is < length gs
condition_shrinks u a b gs hs is found e = let l = further_was u a b gs hs is found e in leads_shrink a b gs is l (let some : length l.front ≡ suc (length l.is.rest) = ap length l.is.tokens in omega arith)
