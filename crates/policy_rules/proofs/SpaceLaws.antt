-- The names that statements declare in a space, if no clause rejects them.
use Rattle.policy_rules.proofs.Prelude.{◌∙◌, ap, List, ◌≡◌, sym, ℕ, [], ◌++◌, take, false, length, subst, Some, ◌+◌, arith, ◌<◌, None, get_or, ◌≤◌, Option, suc, zero, append-nil, take_more, nat_list_eq_equiv, cons_option, option_map_or, bytes_eq, Entry, Sense, version, is_declared, is_one_too_many, NoLine, IsOneTooMany, IsRepeated, AreRising, Name, has, declared}
use Rattle.std.specs.List.{IsDistinct}
use Rattle.std.proofs.Math.Seq.{take-length}
use Rattle.std.proofs.lemmas.Map.Keys.{IsDistinct-push}
use Rattle.policy_rules.proofs.EarlierLines.{passes-at}
use Rattle.policy_rules.proofs.Lines.{declared-push}

distinct-more : (names : List Name) (o : Option Name) → IsDistinct bytes_eq names → option_map_or (has names) o false ≡ false → IsDistinct bytes_eq (names ++ cons_option o [])
distinct-more names None distinct new = subst (λ (l : List Name). IsDistinct bytes_eq l) (sym (append-nil names)) distinct
distinct-more names (Some a) distinct new = IsDistinct-push nat_list_eq_equiv names a distinct new

distinct-none : IsDistinct bytes_eq []
unfolding IsDistinct
distinct-none = tt

no-entry : Entry
no-entry = (0, version 1)

module _ (space : Sense → Option Name) (es : List Entry) (rising : AreRising es) where
  -- the names of the first statements and one more
  names-more : (i : ℕ) → i < length es → declared space (take (suc i) es) ≡ declared space (take i es) ++ cons_option (space (get_or es i no-entry).1) []
  names-more i within =
      let next : suc i ≡ i + 1 = omega arith in
      ap (λ k. declared space (take k es)) next ∙ ap (declared space) (take_more es i no-entry within) ∙ declared-push space (take i es) (get_or es i no-entry)

  module _ (new : (earlier : List Entry) (s : Sense) → is_declared earlier s ≡ false → option_map_or (has (declared space earlier)) (space s) false ≡ false) (fine : NoLine (IsRepeated es) es) where
    distinct-front : (i : ℕ) → i ≤ length es → IsDistinct bytes_eq (declared space (take i es))
    distinct-front zero l = distinct-none
    distinct-front (suc i) l =
        subst (λ (ns : List Name). IsDistinct bytes_eq ns) (sym (names-more i (omega arith)))
        (distinct-more (declared space (take i es)) (space (get_or es i no-entry).1) (distinct-front i (omega arith)) (new (take i es) (get_or es i no-entry).1 (passes-at es rising is_declared fine i no-entry (omega arith))))

    -- the names of a space are distinct, if none is declared again
    pub declared-distinct : IsDistinct bytes_eq (declared space es)
    declared-distinct = subst (λ (ls : List Entry). IsDistinct bytes_eq (declared space ls)) (take-length es) (distinct-front (length es) (omega arith))

  module _ (most : ℕ) (room : (earlier : List Entry) (s : Sense) → is_one_too_many earlier s ≡ false → length (declared space earlier) ≤ most → length (declared space earlier ++ cons_option (space s) []) ≤ most) (fine : NoLine (IsOneTooMany es) es) where
    few-front : (i : ℕ) → i ≤ length es → length (declared space (take i es)) ≤ most
    few-front zero l = omega arith
    few-front (suc i) l =
        subst (λ (ns : List Name). length ns ≤ most) (sym (names-more i (omega arith)))
        (room (take i es) (get_or es i no-entry).1 (passes-at es rising is_one_too_many fine i no-entry (omega arith)) (few-front i (omega arith)))

    -- a space has at most as many names as its limit, if no statement is beyond it
    pub declared-few : length (declared space es) ≤ most
    declared-few = subst (λ (ls : List Entry). length (declared space ls) ≤ most) (take-length es) (few-front (length es) (omega arith))
