-- The root among the declared names.
use Rattle.policy_rules.proofs.Prelude.{◌∙◌, ap, List, ◌≡◌, sym, ℕ, [], ◌∷◌, refl, false, Bool, Some, ◌||◌, None, Option, cons_option, list_any, option_map_or, bytes_eq, sense_of, Statement, root, has_root, entries_of, Name, declared, node_name, is_root}

any-cons_option : (t : Name → Bool) (o : Option Name) (ns : List Name) → list_any t (cons_option o ns) ≡ (option_map_or t o false || list_any t ns)
any-cons_option t None ns = refl
any-cons_option t (Some n) ns = refl

pub has_root-any : (lines : List (ℕ × Statement)) → list_any (λ l. is_root (sense_of l.1)) lines ≡ has_root (entries_of lines)
has_root-any [] = refl
has_root-any (l ∷ lines) = ap (λ b. is_root (sense_of l.1) || b) (has_root-any lines) ∙ sym (any-cons_option (bytes_eq root) (node_name (sense_of l.1)) (declared node_name (entries_of lines)))
