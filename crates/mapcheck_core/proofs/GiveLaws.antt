-- Well-formed lines have only one list of entries, and a text has only one first line with an
-- error.
use Rattle.mapcheck_core.proofs.Prelude.{◌≡◌, sym, List, ℕ, subst, ◌∙◌, ap, [], refl, arith, ◌∷◌, ◌+◌, length, ◌++◌, append_assoc, append-nil, Give, IsFirstAtFault, over, next}

-- one more line
pub Give-push : {A : Type 0} (Gives : ℕ → List ℕ → List A → Type 0) (n : ℕ) (ls : List (List ℕ)) (ss : List A) (l : List ℕ) (s : List A) → Give Gives n ls ss → Gives (n + length ls) l s → Give Gives n (ls ++ l ∷ []) (ss ++ s)
Give-push Gives n [] _ l s (over _) c =
    let here : n + 0 ≡ n = omega arith in
    subst (Give Gives n (l ∷ [])) (append-nil s) (next n l [] s [] (subst (λ m. Gives m l s) here c) (over (n + 1)))
Give-push Gives n (k ∷ ls) _ l s (next _ _ _ t ts d rest) c =
    let here : n + length (k ∷ ls) ≡ n + 1 + length ls = omega arith in
    subst (Give Gives n (k ∷ (ls ++ l ∷ []))) (sym (append_assoc t ts s)) (next n k (ls ++ l ∷ []) t (ts ++ s) d (Give-push Gives (n + 1) ls ts l s rest (subst (λ m. Gives m l s) here c)))

-- if each line has only one list of entries, so do the lines together
pub Give-one : {A : Type 0} (Gives : ℕ → List ℕ → List A → Type 0) → ((n : ℕ) (l : List ℕ) (s t : List A) → Gives n l s → Gives n l t → s ≡ t) → (n : ℕ) (ls : List (List ℕ)) (s t : List A) → Give Gives n ls s → Give Gives n ls t → s ≡ t
Give-one Gives one n [] _ _ (over _) (over _) = refl
Give-one Gives one n (l ∷ ls) _ _ (next _ _ _ s ss c rest) (next _ _ _ t ts d more) =
    ap (λ x. x ++ ss) (one n l s t c d) ∙ ap (λ x. t ++ x) (Give-one Gives one (n + 1) ls ss ts rest more)

-- A line has only one list of entries. If a line has an error, the entries before it are right, but
-- not together with any entries of that line and of lines after it.
pub record Tells {A : Type 0} (Gives : ℕ → List ℕ → List A → Type 0) (AtFault : List A → ℕ → List ℕ → Type 0) (Right : List A → Type 0) : Type 0 where
  pub one : (n : ℕ) (l : List ℕ) (s t : List A) → Gives n l s → Gives n l t → s ≡ t
  pub right : (before : List A) (n : ℕ) (l : List ℕ) → AtFault before n l → Right before
  pub wrong : (before : List A) (n : ℕ) (l : List ℕ) (s after : List A) → AtFault before n l → Gives n l s → Right (before ++ (s ++ after)) → ⊥

-- well-formed lines with right entries have no line with an error; p are the entries given before
-- both
none_at_fault : {A : Type 0} (Gives : ℕ → List ℕ → List A → Type 0) (AtFault : List A → ℕ → List ℕ → Type 0) (Right : List A → Type 0) → Tells Gives AtFault Right → (n m : ℕ) (p : List A) (b : List (List ℕ)) (g : List A) (l : List ℕ) (a ls : List (List ℕ)) (ss : List A) → Give Gives n b g → Give Gives n ls ss → Right (p ++ ss) → m ≡ n + length b → AtFault (p ++ g) m l → ls ≡ b ++ l ∷ a → ⊥
none_at_fault Gives AtFault Right tells n m p [] _ l a [] _ (over _) (over _) right place fault e = cc
none_at_fault Gives AtFault Right tells n m p [] _ l a (h ∷ ls) _ (over _) (next _ _ _ t ts d more) right place fault e =
    let same : h ≡ l = cc in
    let here : n ≡ m = omega arith in
    let gives : Gives m l t = subst (λ k. Gives k l t) here (subst (λ v. Gives n v t) same d) in
    tells.wrong p m l t ts (subst (λ v. AtFault v m l) (append-nil p) fault) gives right
none_at_fault Gives AtFault Right tells n m p (k ∷ b) _ l a [] _ (next _ _ _ s ss c rest) (over _) right place fault e = cc
none_at_fault Gives AtFault Right tells n m p (k ∷ b) _ l a (h ∷ ls) _ (next _ _ _ s ss c rest) (next _ _ _ t ts d more) right place fault e =
    let heads : h ≡ k = cc in
    let tails : ls ≡ b ++ l ∷ a = cc in
    let same : t ≡ s = sym (tells.one n k s t c (subst (λ v. Gives n v t) heads d)) in
    let behind : Right ((p ++ s) ++ ts) = subst Right (ap (λ v. p ++ (v ++ ts)) same ∙ sym (append_assoc p s ts)) right in
    let here : m ≡ n + 1 + length b = omega arith in
    none_at_fault Gives AtFault Right tells (n + 1) m (p ++ s) b ss l a ls ts rest more behind here (subst (λ v. AtFault v m l) (sym (append_assoc p s ss)) fault) tails

-- two derivations of the first line with an error have the same line number
same_place : {A : Type 0} (Gives : ℕ → List ℕ → List A → Type 0) (AtFault : List A → ℕ → List ℕ → Type 0) (Right : List A → Type 0) → Tells Gives AtFault Right → (n i j : ℕ) (p : List A) (b c : List (List ℕ)) (g h : List A) (l k : List ℕ) (a z : List (List ℕ)) → Give Gives n b g → Give Gives n c h → i ≡ n + length b → j ≡ n + length c → AtFault (p ++ g) i l → AtFault (p ++ h) j k → b ++ l ∷ a ≡ c ++ k ∷ z → i ≡ j
same_place Gives AtFault Right tells n i j p [] [] _ _ l k a z (over _) (over _) x y f g e = x ∙ sym y
same_place Gives AtFault Right tells n i j p [] (v ∷ c) _ h l k a z (over _) d x y f g e =
    absurd (none_at_fault Gives AtFault Right tells n i p [] [] l c (v ∷ c) h (over n) d (tells.right (p ++ h) j k g) x f (let same : v ≡ l = cc in ap (λ w. w ∷ c) same))
same_place Gives AtFault Right tells n i j p (u ∷ b) [] g _ l k a z d (over _) x y f h e =
    absurd (none_at_fault Gives AtFault Right tells n j p [] [] k b (u ∷ b) g (over n) d (tells.right (p ++ g) i l f) y h (let same : u ≡ k = cc in ap (λ w. w ∷ b) same))
same_place Gives AtFault Right tells n i j p (u ∷ b) (v ∷ c) _ _ l k a z (next _ _ _ s ss q rest) (next _ _ _ t ts r more) x y f g e =
    let heads : v ≡ u = cc in
    let tails : b ++ l ∷ a ≡ c ++ k ∷ z = cc in
    let same : t ≡ s = sym (tells.one n u s t q (subst (λ w. Gives n w t) heads r)) in
    let first : i ≡ n + 1 + length b = omega arith in
    let second : j ≡ n + 1 + length c = omega arith in
    same_place Gives AtFault Right tells (n + 1) i j (p ++ s) b c ss ts l k a z rest more first second
    (subst (λ w. AtFault w i l) (sym (append_assoc p s ss)) f)
    (subst (λ w. AtFault w j k) (ap (λ w. p ++ (w ++ ts)) same ∙ sym (append_assoc p s ts)) g)
    tails

-- a text has only one first line with an error
pub IsFirstAtFault-one : {A : Type 0} (Gives : ℕ → List ℕ → List A → Type 0) (AtFault : List A → ℕ → List ℕ → Type 0) (Right : List A → Type 0) → Tells Gives AtFault Right → (ls : List (List ℕ)) (m n : ℕ) → IsFirstAtFault Gives AtFault ls m → IsFirstAtFault Gives AtFault ls n → m ≡ n
IsFirstAtFault-one Gives AtFault Right tells ls m n x y =
    same_place Gives AtFault Right tells 1 m n [] x.before y.before x.given y.given x.line y.line x.after y.after x.give y.give
    (let p : m ≡ length x.before + 1 = x.place in omega arith) (let p : n ≡ length y.before + 1 = y.place in omega arith) x.at_fault y.at_fault (sym x.split ∙ y.split)

-- a text has none if its lines are well formed and their entries right
pub Give-right : {A : Type 0} (Gives : ℕ → List ℕ → List A → Type 0) (AtFault : List A → ℕ → List ℕ → Type 0) (Right : List A → Type 0) → Tells Gives AtFault Right → (ls : List (List ℕ)) (ss : List A) (m : ℕ) → Give Gives 1 ls ss → Right ss → IsFirstAtFault Gives AtFault ls m → ⊥
Give-right Gives AtFault Right tells ls ss m give right x =
    none_at_fault Gives AtFault Right tells 1 m [] x.before x.given x.line x.after ls ss x.give give right (let p : m ≡ length x.before + 1 = x.place in omega arith) x.at_fault x.split
