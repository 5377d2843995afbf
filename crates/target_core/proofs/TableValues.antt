-- The value at a key of a table, and the number of keys.
use Rattle.target_core.proofs.Prelude.{arith, ◌≡◌, ◌≤◌, List, Some, length, sym, ℕ, ◌∙◌, [], refl, ◌∷◌, pos, ap, None, Option, IfSome, Entry, Items, Members, array, get_member, integer, Data, boolean, datetime, float, string, table, as_array, members_view, HasNumber, keys}

pub no_value : (t : Members) (key : List ℕ) (low high n : ℕ) → None ≡ get_member key t → HasNumber t key low high n → ⊥
no_value t key low high n missing h =
    let e : None ≡ Some (integer (pos n)) = missing ∙ h.stands in
    cc

pub number_found : (r : Option ℕ) (d : Data) (t : Members) (key : List ℕ) (low high : ℕ) → Some d ≡ get_member key t → IfSome r (λ n. d ≡ integer (pos n)) → IfSome r (λ n. (low ≤ n) × (n ≤ high)) → IfSome r (HasNumber t key low high)
number_found None d t key low high at is within = tt
number_found (Some n) d t key low high at is within =
    let same : Some d ≡ Some (integer (pos n)) = cc is in
    record { stands = sym at ∙ same; least = within.0; most = within.1 }

pub number_of_value : (d : Data) (t : Members) (key : List ℕ) (low high n : ℕ) → Some d ≡ get_member key t → HasNumber t key low high n → d ≡ integer (pos n)
number_of_value d t key low high n at h =
    let e : Some d ≡ Some (integer (pos n)) = at ∙ h.stands in
    cc

pub no_array : (t : Members) (key : List ℕ) (ds : Items) → None ≡ get_member key t → get_member key t ≡ Some (array ds) → ⊥
no_array t key ds missing stands =
    let e : None ≡ Some (array ds) = missing ∙ stands in
    cc

pub no_array_value : (d : Data) (t : Members) (key : List ℕ) (ds : Items) → Some d ≡ get_member key t → None ≡ as_array d → get_member key t ≡ Some (array ds) → ⊥
no_array_value d t key ds at none stands =
    let e : Some d ≡ Some (array ds) = at ∙ stands in
    let same : d ≡ array ds = cc in
    let no : None ≡ Some ds = none ∙ ap as_array same in
    cc

-- data whose items are those of an array is that array
array_data : (d : Data) (ds : Items) → Some ds ≡ as_array d → d ≡ array ds
array_data (string s) ds e = cc
array_data (integer z) ds e = cc
array_data (float x) ds e = cc
array_data (boolean b) ds e = cc
array_data (datetime x) ds e = cc
array_data (array es) ds e = cc
array_data (table ms) ds e = cc

pub array_found : (d : Data) (t : Members) (key : List ℕ) (ds : Items) → Some d ≡ get_member key t → Some ds ≡ as_array d → get_member key t ≡ Some (array ds)
array_found d t key ds at is = sym at ∙ ap Some (array_data d ds is)

-- a table has as many keys as its map has entries
pub as_many_keys : (es : List Entry) → keys (members_view es) ≡ length es
as_many_keys [] = refl
as_many_keys (e ∷ es) = omega (arith, as_many_keys es)
