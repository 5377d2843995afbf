-- The index of a name's program among all programs.
use Rattle.policy_rules.proofs.Prelude.{◌∙◌, ap, List, ◌≡◌, sym, ℕ, [], ◌∷◌, refl, ◌++◌, false, Bool, length, subst, true, Some, ◌+◌, arith, ◌<◌, ◌||◌, None, true≢false, ◌≤◌, Option, cond, map, position, suc, ◌≢◌, nat_lt, rules, is_some, nat_eq, option_map, zero, ◌^◌, eqb-false, append-nil, length-append, find_at, cons_option, list_any, position_or_len, SomeIff, find, option_and_then, slice_get, bytes_eq, Entry, Sense, class, filtered, pop, push, transaction, version, each, keep, leaf, node, builtins, Builtin, builtin, same_name, Program, AreFew, bodies, Body, is_one_too_many, is_transaction_known, most_transactions, AreRising, known_programs, Name, has, declared, transaction_name, programs, program_in, body_named, or_written, program_named}
use Rattle.std.proofs.lemmas.List.Quantifiers.{position-Some}
use Rattle.policy_rules.proofs.SpaceLaws.{declared-few}
use Rattle.policy_rules.proofs.Texts.{position-map}
use Rattle.policy_rules.proofs.WordVariables.{any_position}

-- ---- built-in names

same_bytes : (a b : List ℕ) → same_name a b ≡ bytes_eq a b
same_bytes [] [] = refl
same_bytes [] (b ∷ bs) = refl
same_bytes (a ∷ xs) [] = refl
same_bytes (a ∷ xs) (b ∷ ys) = grind (arith, rules, same_bytes xs ys)

or_parts : (a b : Bool) → (a || b) ≡ false → (a ≡ false) × (b ≡ false)
or_parts true b e = absurd (true≢false e)
or_parts false b e = (refl, e)

not_built_in : (name : Name) (bs : List Builtin) → list_any (bytes_eq name) (map (λ b. b.name) bs) ≡ false → option_map (λ b. b.program) (find (λ b. same_name name b.name) bs) ≡ None
not_built_in name [] none = refl
not_built_in name (b ∷ bs) none =
    let parts = or_parts (bytes_eq name b.name) _ none in
    let other : same_name name b.name ≡ false = same_bytes name b.name ∙ parts.0 in
    rw other (not_built_in name bs parts.1)

-- a name without an index in the table
free : (name : Name) → position (bytes_eq name) (map (λ b. b.name) builtins) ≡ None → builtin name ≡ None
free name none = not_built_in name builtins (any_position (bytes_eq name) (map (λ b. b.name) builtins) ∙ ap is_some none)

-- ---- written names

-- the names of transactions are those of the bodies
names_of_bodies : (es : List Entry) → declared transaction_name es ≡ map (λ b. b.name) (bodies es)
names_of_bodies [] = refl
names_of_bodies ((n, transaction a) ∷ es) = ap (λ (l : List Name). a ∷ l) (names_of_bodies es)
names_of_bodies ((n, version v) ∷ es) = names_of_bodies es
names_of_bodies ((n, keep a s) ∷ es) = names_of_bodies es
names_of_bodies ((n, each a s) ∷ es) = names_of_bodies es
names_of_bodies ((n, push a t) ∷ es) = names_of_bodies es
names_of_bodies ((n, pop a t) ∷ es) = names_of_bodies es
names_of_bodies ((n, class a c cs) ∷ es) = names_of_bodies es
names_of_bodies ((n, filtered a c cs) ∷ es) = names_of_bodies es
names_of_bodies ((n, leaf a u c q ns) ∷ es) = names_of_bodies es
names_of_bodies ((n, node a u c q ns) ∷ es) = names_of_bodies es

body_place : (es : List Entry) (name : Name) → position (bytes_eq name) (declared transaction_name es) ≡ position (λ b. bytes_eq name b.name) (bodies es)
body_place es name = ap (position (bytes_eq name)) (names_of_bodies es) ∙ sym (position-map (λ (b : Body). b.name) (bytes_eq name) (bodies es))

none_found : {X : Type 0} (p : X → Bool) (xs : List X) → list_any p xs ≡ false → find p xs ≡ None
none_found p [] none = refl
none_found p (x ∷ xs) none = (let parts = or_parts (p x) (list_any p xs) none in rw parts.0 (none_found p xs parts.1))

place_is : (b : Bool) (n i : ℕ) → cond b (Some n) None ≡ Some i → n ≡ i
place_is true n i e = cc
place_is false n i e = absurd cc

found_there : {X : Type 0} (p : X → Bool) (xs : List X) (i : ℕ) → position p xs ≡ Some i → find p xs ≡ slice_get xs i
found_there p xs i at = find_at p xs ∙ ap (slice_get xs) (place_is (nat_lt (position_or_len p xs) (length xs)) (position_or_len p xs) i at)

slice_get-map : {X Y : Type 0} (f : X → Y) (xs : List X) (i : ℕ) → slice_get (map f xs) i ≡ option_map f (slice_get xs i)
slice_get-map f [] i = refl
slice_get-map f (x ∷ xs) zero = refl
slice_get-map f (x ∷ xs) (suc i) = slice_get-map f xs i

-- six programs come before those that are written
behind_six : (es : List Entry) (i : ℕ) → slice_get (known_programs es) (i + 6) ≡ slice_get (programs es) i
behind_six es i = (let six : i + 6 ≡ suc (suc (suc (suc (suc (suc i))))) = omega arith in ap (slice_get (known_programs es)) six)

-- ---- the number of transactions

room : (n : ℕ) → n ≤ most_transactions → nat_eq n most_transactions ≡ false → n + 1 ≤ most_transactions
room n few other = (let differs : n ≢ most_transactions = eqb-false n most_transactions other in omega (arith, few, differs))

few_push : (pre : List Entry) (s : Sense) → is_one_too_many pre s ≡ false → length (declared transaction_name pre) ≤ most_transactions → length (declared transaction_name pre ++ cons_option (transaction_name s) []) ≤ most_transactions
few_push pre (transaction a) beyond few = subst (λ (k : ℕ). k ≤ most_transactions) (sym (length-append (declared transaction_name pre) (a ∷ []))) (room (length (declared transaction_name pre)) few beyond)
few_push pre (version v) beyond few = subst (λ (l : List Name). length l ≤ most_transactions) (sym (append-nil (declared transaction_name pre))) few
few_push pre (keep a r) beyond few = subst (λ (l : List Name). length l ≤ most_transactions) (sym (append-nil (declared transaction_name pre))) few
few_push pre (each a r) beyond few = subst (λ (l : List Name). length l ≤ most_transactions) (sym (append-nil (declared transaction_name pre))) few
few_push pre (push a t) beyond few = subst (λ (l : List Name). length l ≤ most_transactions) (sym (append-nil (declared transaction_name pre))) few
few_push pre (pop a t) beyond few = subst (λ (l : List Name). length l ≤ most_transactions) (sym (append-nil (declared transaction_name pre))) few
few_push pre (class a c cs) beyond few = subst (λ (l : List Name). length l ≤ most_transactions) (sym (append-nil (declared transaction_name pre))) few
few_push pre (filtered a c cs) beyond few = subst (λ (l : List Name). length l ≤ most_transactions) (sym (append-nil (declared transaction_name pre))) few
few_push pre (leaf a u c q ns) beyond few = subst (λ (l : List Name). length l ≤ most_transactions) (sym (append-nil (declared transaction_name pre))) few
few_push pre (node a u c q ns) beyond few = subst (λ (l : List Name). length l ≤ most_transactions) (sym (append-nil (declared transaction_name pre))) few

pub few_transactions : (es : List Entry) → AreRising es → AreFew es → length (declared transaction_name es) ≤ most_transactions
few_transactions es rising few = declared-few transaction_name es rising most_transactions few_push few.1

-- ---- the index of a name that isn't built in

module _ (name : Name) (names : List Name) (apart : position (bytes_eq name) (map (λ b. b.name) builtins) ≡ None) where
  other : builtin name ≡ None
  other = free name apart

  pub absent : (r : Option ℕ) → r ≡ None → position (bytes_eq name) names ≡ None → (es : List Entry) → AreRising es → AreFew es → names ≡ declared transaction_name es → option_and_then (λ place. slice_get (known_programs es) place) r ≡ program_named es name
  absent r is none es rising few are =
      let nowhere : body_named es name ≡ None = none_found (λ (b : Body). bytes_eq name b.name) (bodies es) (any_position (λ (b : Body). bytes_eq name b.name) (bodies es) ∙ ap is_some (sym (body_place es name) ∙ ap (position (bytes_eq name)) (sym are) ∙ none)) in
      rw (is, other, nowhere) refl

  pub absent_known : (r : Option ℕ) → r ≡ None → position (bytes_eq name) names ≡ None → (es : List Entry) → AreRising es → AreFew es → names ≡ declared transaction_name es → is_some r ≡ is_transaction_known es name
  absent_known r is none es rising few are =
      let unknown : has (declared transaction_name es) name ≡ false = any_position (bytes_eq name) (declared transaction_name es) ∙ ap is_some (ap (position (bytes_eq name)) (sym are) ∙ none) in
      rw (is, other, unknown) refl

  fits : (i : ℕ) → position (bytes_eq name) names ≡ Some i → (es : List Entry) → AreRising es → AreFew es → names ≡ declared transaction_name es → i + 6 < 2 ^ 64
  fits i at es rising few are =
      let within : i < length names = (position-Some (bytes_eq name) names i name at).0 in
      let most : length names ≤ 64 = subst (λ (l : List Name). length l ≤ 64) (sym are) (few_transactions es rising few) in
      omega (arith, within, most)

  answer : (i : ℕ) (r : Option ℕ) → SomeIff r (i + 6 < 2 ^ 64) (i + 6) → i + 6 < 2 ^ 64 → r ≡ Some (i + 6)
  answer i None told fit = absurd (told fit)
  answer i (Some x) told fit = ap Some told.1

  pub placed : (i : ℕ) (r : Option ℕ) → position (bytes_eq name) names ≡ Some i → SomeIff r (i + 6 < 2 ^ 64) (i + 6) → (es : List Entry) → AreRising es → AreFew es → names ≡ declared transaction_name es → option_and_then (λ place. slice_get (known_programs es) place) r ≡ program_named es name
  placed i r at told es rising few are =
      let is : r ≡ Some (i + 6) = answer i r told (fits i at es rising few are) in
      let there : body_named es name ≡ slice_get (bodies es) i = found_there (λ (b : Body). bytes_eq name b.name) (bodies es) i (sym (body_place es name) ∙ ap (position (bytes_eq name)) (sym are) ∙ at) in
      ap (option_and_then (λ place. slice_get (known_programs es) place)) is ∙ behind_six es i ∙ slice_get-map (λ (b : Body). program_in b.lines) (bodies es) i
      ∙ ap (option_map (λ (b : Body). program_in b.lines)) (sym there) ∙ ap (λ (o : Option Program). or_written o (body_named es name)) (sym other)

  pub placed_known : (i : ℕ) (r : Option ℕ) → position (bytes_eq name) names ≡ Some i → SomeIff r (i + 6 < 2 ^ 64) (i + 6) → (es : List Entry) → AreRising es → AreFew es → names ≡ declared transaction_name es → is_some r ≡ is_transaction_known es name
  placed_known i r at told es rising few are =
      let is : r ≡ Some (i + 6) = answer i r told (fits i at es rising few are) in
      let known : has (declared transaction_name es) name ≡ true = any_position (bytes_eq name) (declared transaction_name es) ∙ ap is_some (ap (position (bytes_eq name)) (sym are) ∙ at) in
      rw (is, other, known) refl
