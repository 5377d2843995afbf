-- A map ordered by the flows' keys behaves like a map from flows: lookups and updates work flow by
-- flow.
use Rattle.rank_core.proofs.Prelude.{◌≡◌, sym, rules, subst, ◌∙◌, List, arith, [], refl, ◌∷◌, false, ◌≢◌, Option, BTreeMap, Updates, get, is_at, lookup, same_who-other, FlowKey, Flow, has_key, key_of, cmp-value, OrderedKey}
use Rattle.std.specs.Ordering.{is_eq}

-- in the order, a flow's key equals no other flow's key
pub tied : (f : FlowKey) (k : OrderedKey) → is_eq (cmp-value.it (key_of f) k) ≡ has_key f k
tied f k = grind (arith, rules)

pub flow-of : {f g : FlowKey} → Flow f ≡ Flow g → f ≡ g
flow-of e = cc

-- so the keys of two different flows differ
pub apart : (f g : FlowKey) → f ≢ g → is_at (cmp-value.it (key_of f)) (key_of g) ≡ false
apart f g n = tied f (key_of g) ∙ same_who-other (Flow f) (Flow g) (λ e. n (flow-of e))

found-in : {X : Type 0} (f : FlowKey) (es : List (OrderedKey × X)) → lookup (has_key f) es ≡ lookup (is_at (cmp-value.it (key_of f))) es
found-in f [] = refl
found-in f (e ∷ es) = rw (tied f e.0, found-in f es) refl

-- a lookup in the map finds the value of the flow
pub found : {X : Type 0} (m : BTreeMap OrderedKey X) (f : FlowKey) → lookup (has_key f) m.entries ≡ get cmp-value.it m (key_of f)
found m f = found-in f m.entries

-- so a lookup at the flow's key finds the value of the flow
pub found_at : {X : Type 0} (m : BTreeMap OrderedKey X) (f : FlowKey) {k : OrderedKey} (o : Option X) → k ≡ key_of f → o ≡ get cmp-value.it m k → lookup (has_key f) m.entries ≡ o
found_at m f o key is = rw (found m f, ← key) (sym is)

-- an update at a flow's key sets the value of the flow
pub update_there : {X : Type 0} (m n : BTreeMap OrderedKey X) (f : FlowKey) {k : OrderedKey} (w : Option X) → k ≡ key_of f → Updates cmp-value.it m n k w → lookup (has_key f) n.entries ≡ w
update_there m n f w key u = found n f ∙ (subst (λ j. Updates cmp-value.it m n j w) key u).1

-- the values of the other flows are unchanged
pub update_others : {X : Type 0} (m n : BTreeMap OrderedKey X) (f g : FlowKey) {k : OrderedKey} (w : Option X) → k ≡ key_of f → Updates cmp-value.it m n k w → g ≢ f → lookup (has_key g) n.entries ≡ lookup (has_key g) m.entries
update_others m n f g w key u other =
    found n g ∙ (subst (λ j. Updates cmp-value.it m n j w) key u).2 (key_of g) (apart f g (λ e. other (sym e))) ∙ sym (found m g)
