-- Items of an array that are numbers from 2 to 64, read in order.
use Rattle.target_core.proofs.Prelude.{arith, ◌≡◌, ◌≤◌, List, length, sym, ℕ, ◌∙◌, [], ◌∷◌, pos, ap, ◌<◌, suc, take, zero, get_or, ◌++◌, ◌+◌, items_view-push, Items, integer, item, no_items, Data, push_item, items_view, view, Value, AreArities}
use Rattle.std.proofs.lemmas.List.{take_more}

one_more : (ds : Items) (ns : List ℕ) (d : Data) (n : ℕ) → AreArities ds ns → d ≡ integer (pos n) → 2 ≤ n → n ≤ 64 → AreArities (push_item ds d) (ns ++ n ∷ [])
one_more no_items [] d n a is l m = (is, l, m, tt)
one_more no_items (x ∷ ns) d n a is l m = absurd a
one_more (item e ds) [] d n a is l m = absurd a
one_more (item e ds) (x ∷ ns) d n a is l m = (a.0, a.1, a.2, one_more ds ns d n a.3 is l m)

pub next_arity : (vs : List Value) (i : ℕ) (v : Value) (ns : List ℕ) (n : ℕ) → i < length vs → v ≡ get_or vs i v → AreArities (items_view (take i vs)) ns → view v ≡ integer (pos n) → 2 ≤ n → n ≤ 64 → AreArities (items_view (take (i + 1) vs)) (ns ++ n ∷ [])
next_arity vs i v ns n inside at a is l m =
    let whole : items_view (take (i + 1) vs) ≡ push_item (items_view (take i vs)) (view (get_or vs i v)) = ap items_view (take_more vs i v inside) ∙ items_view-push (take i vs) (get_or vs i v) in
    rw whole (one_more (items_view (take i vs)) ns (view (get_or vs i v)) n a (ap view (sym at) ∙ is) l m)

-- one item that isn't such a number is enough: the items aren't arities
pub none_with : (vs : List Value) (i : ℕ) (v : Value) (ns : List ℕ) → i < length vs → ((n : ℕ) → view (get_or vs i v) ≡ integer (pos n) → 2 ≤ n → n ≤ 64 → ⊥) → AreArities (items_view vs) ns → ⊥
none_with [] i v ns l none a = absurd (omega arith)
none_with (w ∷ vs) i v [] l none a = a
none_with (w ∷ vs) zero v (n ∷ ns) l none a = none n a.0 a.1 a.2
none_with (w ∷ vs) (suc i) v (n ∷ ns) l none a = none_with vs i v ns (omega arith) none a.3

pub as_many : (vs : List Value) (ns : List ℕ) → AreArities (items_view vs) ns → length ns ≡ length vs
as_many [] [] a = omega arith
as_many [] (n ∷ ns) a = absurd a
as_many (v ∷ vs) [] a = absurd a
as_many (v ∷ vs) (n ∷ ns) a = omega (arith, as_many vs ns a.3)
