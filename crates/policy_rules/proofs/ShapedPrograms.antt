-- Programs of sound bodies are shaped.
use Rattle.policy_rules.proofs.Prelude.{◌∙◌, ap, List, ◌≡◌, sym, ℕ, [], ◌∷◌, refl, ◌++◌, false, Bool, length, subst, true, ◌<◌, inl, inr, ◌||◌, true≢false, ◌≤◌, ◌&&◌, suc, ◌≢◌, codes, if◌then◌else◌, cases_Bool, and_parts, append_assoc, filter_map-append, list_any-append, bytes_eq-Decides, AllByRecursion, filter_map, bytes_eq, Phrase, choice, negation, number, two, word, depth, Entry, class, filtered, pop, push, transaction, version, each, keep, leaf, node, IsValidSpan, is_variable, is_name, Program, Assignment, IsShaped, AreDeclared, IsAim, IsDeclared, IsShapedAssignment, IsSpan, Span, IsSoundBody, AreSoundBehind, are_operands_known, Name, has, declared, each_name, keep_name, variable_name, program_in, place, aim_of, each_span, keep_span, pop_in, push_in, variable_of, formula_in}
use Rattle.rank_defs.specs.declared.expression.Var.TheVariants as var
use Rattle.rank_defs.specs.declared.transaction.Aim.TheVariants as aim
use Rattle.rank_defs.specs.Formulas.{depth_of}
use Rattle.policy_rules.proofs.PlaceLaws.{place-within}
use Rattle.policy_rules.proofs.SoundBodies.{AreBody, AreBody-push, open_own}

-- ---- spans

of_span : (s : Span) → IsValidSpan s → IsSpan s
of_span s valid = record { low = valid.ordered.above; high = valid.ordered.below; most = valid.high }

keep_spans : (earlier lines : List Entry) → AreSoundBehind earlier lines → AllByRecursion IsSpan (filter_map (λ e. keep_span e.1) lines)
keep_spans earlier [] sound = tt
keep_spans earlier ((n, keep a s) ∷ es) sound = (of_span s sound.0.valid.1, keep_spans _ es sound.1)
keep_spans earlier ((n, version v) ∷ es) sound = keep_spans _ es sound.1
keep_spans earlier ((n, transaction a) ∷ es) sound = keep_spans _ es sound.1
keep_spans earlier ((n, each a s) ∷ es) sound = keep_spans _ es sound.1
keep_spans earlier ((n, push a t) ∷ es) sound = keep_spans _ es sound.1
keep_spans earlier ((n, pop a t) ∷ es) sound = keep_spans _ es sound.1
keep_spans earlier ((n, class a c cs) ∷ es) sound = keep_spans _ es sound.1
keep_spans earlier ((n, filtered a c cs) ∷ es) sound = keep_spans _ es sound.1
keep_spans earlier ((n, leaf a u c q ns) ∷ es) sound = keep_spans _ es sound.1
keep_spans earlier ((n, node a u c q ns) ∷ es) sound = keep_spans _ es sound.1

each_spans : (earlier lines : List Entry) → AreSoundBehind earlier lines → AllByRecursion IsSpan (filter_map (λ e. each_span e.1) lines)
each_spans earlier [] sound = tt
each_spans earlier ((n, each a s) ∷ es) sound = (of_span s sound.0.valid.1, each_spans _ es sound.1)
each_spans earlier ((n, version v) ∷ es) sound = each_spans _ es sound.1
each_spans earlier ((n, transaction a) ∷ es) sound = each_spans _ es sound.1
each_spans earlier ((n, keep a s) ∷ es) sound = each_spans _ es sound.1
each_spans earlier ((n, push a t) ∷ es) sound = each_spans _ es sound.1
each_spans earlier ((n, pop a t) ∷ es) sound = each_spans _ es sound.1
each_spans earlier ((n, class a c cs) ∷ es) sound = each_spans _ es sound.1
each_spans earlier ((n, filtered a c cs) ∷ es) sound = each_spans _ es sound.1
each_spans earlier ((n, leaf a u c q ns) ∷ es) sound = each_spans _ es sound.1
each_spans earlier ((n, node a u c q ns) ∷ es) sound = each_spans _ es sound.1

-- a span for each name
pub as_many_keeps : (lines : List Entry) → length (declared keep_name lines) ≡ length (filter_map (λ e. keep_span e.1) lines)
as_many_keeps [] = refl
as_many_keeps ((n, keep a s) ∷ es) = ap suc (as_many_keeps es)
as_many_keeps ((n, version v) ∷ es) = as_many_keeps es
as_many_keeps ((n, transaction a) ∷ es) = as_many_keeps es
as_many_keeps ((n, each a s) ∷ es) = as_many_keeps es
as_many_keeps ((n, push a t) ∷ es) = as_many_keeps es
as_many_keeps ((n, pop a t) ∷ es) = as_many_keeps es
as_many_keeps ((n, class a c cs) ∷ es) = as_many_keeps es
as_many_keeps ((n, filtered a c cs) ∷ es) = as_many_keeps es
as_many_keeps ((n, leaf a u c q ns) ∷ es) = as_many_keeps es
as_many_keeps ((n, node a u c q ns) ∷ es) = as_many_keeps es

pub as_many_eaches : (lines : List Entry) → length (declared each_name lines) ≡ length (filter_map (λ e. each_span e.1) lines)
as_many_eaches [] = refl
as_many_eaches ((n, each a s) ∷ es) = ap suc (as_many_eaches es)
as_many_eaches ((n, version v) ∷ es) = as_many_eaches es
as_many_eaches ((n, transaction a) ∷ es) = as_many_eaches es
as_many_eaches ((n, keep a s) ∷ es) = as_many_eaches es
as_many_eaches ((n, push a t) ∷ es) = as_many_eaches es
as_many_eaches ((n, pop a t) ∷ es) = as_many_eaches es
as_many_eaches ((n, class a c cs) ∷ es) = as_many_eaches es
as_many_eaches ((n, filtered a c cs) ∷ es) = as_many_eaches es
as_many_eaches ((n, leaf a u c q ns) ∷ es) = as_many_eaches es
as_many_eaches ((n, node a u c q ns) ∷ es) = as_many_eaches es

-- ---- names

or_keep : (x v k e : Bool) → v ≡ (k || e) → (x || v) ≡ ((x || k) || e)
or_keep true v k e is = refl
or_keep false v k e is = is

or_each : (x v k e : Bool) → v ≡ (k || e) → (x || v) ≡ (k || (x || e))
or_each true v true e is = refl
or_each true v false e is = refl
or_each false v k e is = is

-- a variable is the node's, or each child's or flow's
pub either_kind : (a : Name) (lines : List Entry) → has (declared variable_name lines) a ≡ (has (declared keep_name lines) a || has (declared each_name lines) a)
either_kind a [] = refl
either_kind a ((n, keep b s) ∷ es) = or_keep (bytes_eq a b) _ _ _ (either_kind a es)
either_kind a ((n, each b s) ∷ es) = or_each (bytes_eq a b) _ _ _ (either_kind a es)
either_kind a ((n, version v) ∷ es) = either_kind a es
either_kind a ((n, transaction b) ∷ es) = either_kind a es
either_kind a ((n, push b t) ∷ es) = either_kind a es
either_kind a ((n, pop b t) ∷ es) = either_kind a es
either_kind a ((n, class b c cs) ∷ es) = either_kind a es
either_kind a ((n, filtered b c cs) ∷ es) = either_kind a es
either_kind a ((n, leaf b u c q ns) ∷ es) = either_kind a es
either_kind a ((n, node b u c q ns) ∷ es) = either_kind a es

or_more : (a b : Bool) → a ≡ true → (a || b) ≡ true
or_more true b is = refl
or_more false b is = absurd (true≢false (sym is))

-- a declared name stays declared after more lines
still : (a : Name) (earlier lines : List Entry) → has (declared variable_name earlier) a ≡ true → has (declared variable_name (earlier ++ lines)) a ≡ true
still a earlier lines is =
    ap (λ (l : List Name). has l a) (filter_map-append (λ e. variable_name e.1) earlier lines)
    ∙ list_any-append (bytes_eq a) (declared variable_name earlier) (declared variable_name lines)
    ∙ or_more _ (has (declared variable_name lines) a) is

-- ---- variables and aims

module _ (p : Program) (keeps eaches : List Name) (as_keeps : length keeps ≡ length p.keeps) (as_eaches : length eaches ≡ length p.eaches) where
  keep_within : (a : Name) → has keeps a ≡ true → place keeps a < length p.keeps
  keep_within a is = subst (λ (n : ℕ). place keeps a < n) as_keeps (place-within keeps a is)

  each_within : (a : Name) → has eaches a ≡ true → place eaches a < length p.eaches
  each_within a is = subst (λ (n : ℕ). place eaches a < n) as_eaches (place-within eaches a is)

  aim_case : (rank k e : Bool) (i j : ℕ) → (rank || (k || e)) ≡ true → (k ≡ true → i < length p.keeps) → (e ≡ true → j < length p.eaches) → IsAim p (if rank then aim.Rank else if k then aim.Keep i else aim.Each j)
  aim_case true k e i j known keep_in each_in = tt
  aim_case false true e i j known keep_in each_in = keep_in refl
  aim_case false false e i j known keep_in each_in = each_in known

  aim_shaped : (a : Name) → (bytes_eq a (codes "rank") || (has keeps a || has eaches a)) ≡ true → IsAim p (aim_of keeps eaches a)
  aim_shaped a known = aim_case (bytes_eq a (codes "rank")) (has keeps a) (has eaches a) (place keeps a) (place eaches a) known (keep_within a) (each_within a)

  word_case : (b c d f g h k e : Bool) (i j : ℕ) → ((b || (c || (d || (f || (g || (h || false)))))) || (k || e)) ≡ true → (k ≡ true → i < length p.keeps) → (e ≡ true → j < length p.eaches)
      → IsDeclared p (if b then var.Len else if c then var.Now else if d then var.Prio else if f then var.Weight else if g then var.Slack else if h then var.Rank else if k then var.Keep i else var.Each j)
  word_case true c d f g h k e i j known keep_in each_in = tt
  word_case false true d f g h k e i j known keep_in each_in = tt
  word_case false false true f g h k e i j known keep_in each_in = tt
  word_case false false false true g h k e i j known keep_in each_in = tt
  word_case false false false false true h k e i j known keep_in each_in = tt
  word_case false false false false false true k e i j known keep_in each_in = tt
  word_case false false false false false false true e i j known keep_in each_in = keep_in refl
  word_case false false false false false false false e i j known keep_in each_in = each_in known

  variable_shaped : (w : Name) → (is_variable w || (has keeps w || has eaches w)) ≡ true → IsDeclared p (variable_of keeps eaches w)
  variable_shaped w known =
      word_case (bytes_eq w (codes "len")) (bytes_eq w (codes "now")) (bytes_eq w (codes "prio")) (bytes_eq w (codes "weight")) (bytes_eq w (codes "slack")) (bytes_eq w (codes "rank")) (has keeps w) (has eaches w) (place keeps w) (place eaches w) known (keep_within w) (each_within w)

  formula_shaped : (variables : List Name) → ((w : Name) → has variables w ≡ true → (has keeps w || has eaches w) ≡ true) → (t : Phrase) → are_operands_known variables t ≡ true → AreDeclared p (formula_in keeps eaches t)
  formula_shaped variables found (number n) known = tt
  formula_shaped variables found (word w) known = variable_shaped w (wider (is_variable w) (has variables w) (has keeps w || has eaches w) known (found w))
    where
      wider : (a b c : Bool) → (a || b) ≡ true → (b ≡ true → c ≡ true) → (a || c) ≡ true
      wider true b c is later = refl
      wider false b c is later = later is
  formula_shaped variables found (two op a b) known = (let parts = and_parts _ _ known in (formula_shaped variables found a parts.0, formula_shaped variables found b parts.1))
  formula_shaped variables found (negation a) known = formula_shaped variables found a known
  formula_shaped variables found (choice c a b) known = (let parts = and_parts _ _ known in let others = and_parts _ _ parts.1 in (formula_shaped variables found c parts.0, formula_shaped variables found a others.0, formula_shaped variables found b others.1))

pub same_depth : (keeps eaches : List Name) (t : Phrase) → depth_of (formula_in keeps eaches t) ≡ depth t
same_depth keeps eaches (number n) = refl
same_depth keeps eaches (word w) = refl
same_depth keeps eaches (two op a b) = rw (same_depth keeps eaches a, same_depth keeps eaches b) refl
same_depth keeps eaches (negation a) = ap suc (same_depth keeps eaches a)
same_depth keeps eaches (choice c a b) = rw (same_depth keeps eaches c, same_depth keeps eaches a, same_depth keeps eaches b) refl

-- `rank` is not a name
pub name_not_rank : (a : Name) → is_name a ≡ true → bytes_eq a (codes "rank") ≡ false
name_not_rank a is = elim (cases_Bool (bytes_eq a (codes "rank"))) [
  | inl same ↦ absurd (true≢false (sym is ∙ ap is_name ((bytes_eq-Decides a (codes "rank")).0 same)))
  | inr other ↦ other
]

not_rank : (keeps eaches : List Name) (a : Name) → bytes_eq a (codes "rank") ≡ false → aim_of keeps eaches a ≢ aim.Rank
not_rank keeps eaches a other = by_kind (has keeps a) (bytes_eq a (codes "rank")) other
  where
    by_kind : (k r : Bool) → r ≡ false → (if r then aim.Rank else if k then aim.Keep (place keeps a) else aim.Each (place eaches a)) ≢ aim.Rank
    by_kind true false other e = absurd cc
    by_kind false false other e = absurd cc
    by_kind k true other e = true≢false other

-- ---- the lines of a body

module _ (all : List Entry) where
  found : (earlier lines : List Entry) → earlier ++ lines ≡ all → (w : Name) → has (declared variable_name earlier) w ≡ true → (has (declared keep_name all) w || has (declared each_name all) w) ≡ true
  found earlier lines is w known = sym (either_kind w all) ∙ ap (λ (l : List Entry). has (declared variable_name l) w) (sym is) ∙ still w earlier lines known

  wide : (r b c : Bool) → (r || b) ≡ true → (b ≡ true → c ≡ true) → (r || c) ≡ true
  wide true b c is later = refl
  wide false b c is later = later is

  assignment_shaped : (earlier lines : List Entry) (n : ℕ) (a : Name) (t : Phrase) → earlier ++ lines ≡ all → ((bytes_eq a (codes "rank") || has (declared variable_name earlier) a) && are_operands_known (declared variable_name earlier) t) ≡ true → depth t ≤ 64
      → IsShapedAssignment (program_in all) (record { line = n; aim = aim_of (declared keep_name all) (declared each_name all) a; formula = formula_in (declared keep_name all) (declared each_name all) t })
  assignment_shaped earlier lines n a t is known low =
      let parts = and_parts _ _ known in
      record {
        aim = aim_shaped (program_in all) (declared keep_name all) (declared each_name all) (as_many_keeps all) (as_many_eaches all) a (wide (bytes_eq a (codes "rank")) (has (declared variable_name earlier) a) (has (declared keep_name all) a || has (declared each_name all) a) parts.0 (found earlier lines is a));
        variables = formula_shaped (program_in all) (declared keep_name all) (declared each_name all) (as_many_keeps all) (as_many_eaches all) (declared variable_name earlier) (found earlier lines is) t parts.1;
        depth = subst (λ (d : ℕ). d ≤ 64) (sym (same_depth (declared keep_name all) (declared each_name all) t)) low;
      }

  pushes_shaped : (earlier lines : List Entry) → earlier ++ lines ≡ all → AreBody earlier → AreSoundBehind earlier lines → AllByRecursion (IsShapedAssignment (program_in all)) (filter_map (push_in (declared keep_name all) (declared each_name all)) lines)
  pushes_shaped earlier [] is body sound = tt
  pushes_shaped earlier ((n, push a t) ∷ es) is body sound = (
    assignment_shaped earlier ((n, push a t) ∷ es) n a t is (subst (λ (l : List Entry). ((bytes_eq a (codes "rank") || has (declared variable_name l) a) && are_operands_known (declared variable_name l) t) ≡ true) (open_own earlier body) sound.0.known) sound.0.valid.1.low,
    pushes_shaped (earlier ++ (n, push a t) ∷ []) es (append_assoc earlier ((n, push a t) ∷ []) es ∙ is) (AreBody-push earlier (n, push a t) body sound.0.body) sound.1,
  )
  pushes_shaped earlier ((n, keep a s) ∷ es) is body sound = pushes_shaped (earlier ++ (n, keep a s) ∷ []) es (append_assoc earlier ((n, keep a s) ∷ []) es ∙ is) (AreBody-push earlier (n, keep a s) body sound.0.body) sound.1
  pushes_shaped earlier ((n, each a s) ∷ es) is body sound = pushes_shaped (earlier ++ (n, each a s) ∷ []) es (append_assoc earlier ((n, each a s) ∷ []) es ∙ is) (AreBody-push earlier (n, each a s) body sound.0.body) sound.1
  pushes_shaped earlier ((n, pop a t) ∷ es) is body sound = pushes_shaped (earlier ++ (n, pop a t) ∷ []) es (append_assoc earlier ((n, pop a t) ∷ []) es ∙ is) (AreBody-push earlier (n, pop a t) body sound.0.body) sound.1
  pushes_shaped earlier ((n, version v) ∷ es) is body sound = absurd (true≢false (sym sound.0.body))
  pushes_shaped earlier ((n, transaction a) ∷ es) is body sound = absurd (true≢false (sym sound.0.body))
  pushes_shaped earlier ((n, class a c cs) ∷ es) is body sound = absurd (true≢false (sym sound.0.body))
  pushes_shaped earlier ((n, filtered a c cs) ∷ es) is body sound = absurd (true≢false (sym sound.0.body))
  pushes_shaped earlier ((n, leaf a u c q ns) ∷ es) is body sound = absurd (true≢false (sym sound.0.body))
  pushes_shaped earlier ((n, node a u c q ns) ∷ es) is body sound = absurd (true≢false (sym sound.0.body))

  with_rank : (r b : Bool) → b ≡ true → (r || b) ≡ true
  with_rank true b is = refl
  with_rank false b is = is

  pops_shaped : (earlier lines : List Entry) → earlier ++ lines ≡ all → AreBody earlier → AreSoundBehind earlier lines → AllByRecursion (IsShapedAssignment (program_in all)) (filter_map (pop_in (declared keep_name all) (declared each_name all)) lines)
  pops_shaped earlier [] is body sound = tt
  pops_shaped earlier ((n, pop a t) ∷ es) is body sound =
      let known : (has (declared variable_name earlier) a && are_operands_known (declared variable_name earlier) t) ≡ true = subst (λ (l : List Entry). (has (declared variable_name l) a && are_operands_known (declared variable_name l) t) ≡ true) (open_own earlier body) sound.0.known in
      let parts = and_parts _ _ known in (
        assignment_shaped earlier ((n, pop a t) ∷ es) n a t is (rw (with_rank (bytes_eq a (codes "rank")) (has (declared variable_name earlier) a) parts.0) parts.1) sound.0.valid.1.low,
        pops_shaped (earlier ++ (n, pop a t) ∷ []) es (append_assoc earlier ((n, pop a t) ∷ []) es ∙ is) (AreBody-push earlier (n, pop a t) body sound.0.body) sound.1,
      )
  pops_shaped earlier ((n, keep a s) ∷ es) is body sound = pops_shaped (earlier ++ (n, keep a s) ∷ []) es (append_assoc earlier ((n, keep a s) ∷ []) es ∙ is) (AreBody-push earlier (n, keep a s) body sound.0.body) sound.1
  pops_shaped earlier ((n, each a s) ∷ es) is body sound = pops_shaped (earlier ++ (n, each a s) ∷ []) es (append_assoc earlier ((n, each a s) ∷ []) es ∙ is) (AreBody-push earlier (n, each a s) body sound.0.body) sound.1
  pops_shaped earlier ((n, push a t) ∷ es) is body sound = pops_shaped (earlier ++ (n, push a t) ∷ []) es (append_assoc earlier ((n, push a t) ∷ []) es ∙ is) (AreBody-push earlier (n, push a t) body sound.0.body) sound.1
  pops_shaped earlier ((n, version v) ∷ es) is body sound = absurd (true≢false (sym sound.0.body))
  pops_shaped earlier ((n, transaction a) ∷ es) is body sound = absurd (true≢false (sym sound.0.body))
  pops_shaped earlier ((n, class a c cs) ∷ es) is body sound = absurd (true≢false (sym sound.0.body))
  pops_shaped earlier ((n, filtered a c cs) ∷ es) is body sound = absurd (true≢false (sym sound.0.body))
  pops_shaped earlier ((n, leaf a u c q ns) ∷ es) is body sound = absurd (true≢false (sym sound.0.body))
  pops_shaped earlier ((n, node a u c q ns) ∷ es) is body sound = absurd (true≢false (sym sound.0.body))

  pops_leave_rank : (earlier lines : List Entry) → AreSoundBehind earlier lines → AllByRecursion (λ (x : Assignment). x.aim ≢ aim.Rank) (filter_map (pop_in (declared keep_name all) (declared each_name all)) lines)
  pops_leave_rank earlier [] sound = tt
  pops_leave_rank earlier ((n, pop a t) ∷ es) sound = (not_rank (declared keep_name all) (declared each_name all) a (name_not_rank a sound.0.valid.0), pops_leave_rank _ es sound.1)
  pops_leave_rank earlier ((n, version v) ∷ es) sound = pops_leave_rank _ es sound.1
  pops_leave_rank earlier ((n, transaction a) ∷ es) sound = pops_leave_rank _ es sound.1
  pops_leave_rank earlier ((n, keep a s) ∷ es) sound = pops_leave_rank _ es sound.1
  pops_leave_rank earlier ((n, each a s) ∷ es) sound = pops_leave_rank _ es sound.1
  pops_leave_rank earlier ((n, push a t) ∷ es) sound = pops_leave_rank _ es sound.1
  pops_leave_rank earlier ((n, class a c cs) ∷ es) sound = pops_leave_rank _ es sound.1
  pops_leave_rank earlier ((n, filtered a c cs) ∷ es) sound = pops_leave_rank _ es sound.1
  pops_leave_rank earlier ((n, leaf a u c q ns) ∷ es) sound = pops_leave_rank _ es sound.1
  pops_leave_rank earlier ((n, node a u c q ns) ∷ es) sound = pops_leave_rank _ es sound.1

pub shaped : (lines : List Entry) → IsSoundBody lines → IsShaped (program_in lines)
shaped lines sound = record {
  keeps = keep_spans [] lines sound;
  eaches = each_spans [] lines sound;
  push = pushes_shaped lines [] lines refl refl sound;
  pop = pops_shaped lines [] lines refl refl sound;
  leaves_rank = pops_leave_rank lines [] lines sound;
}
