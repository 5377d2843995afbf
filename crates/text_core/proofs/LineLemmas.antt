-- One more line after others.
use Rattle.text_core.proofs.Prelude.{◌+◌, List, [], drop, ◌∷◌, subst, ℕ, ◌++◌, prefix_len, Follow, is_text, Line}

pub Follow-join : (text : List ℕ) (from : ℕ) (ls : List Line) (at : ℕ) (ms : List Line) (to : ℕ) → Follow text from ls at → Follow text at ms to → Follow text from (ls ++ ms) to
Follow-join text from [] at ms to follow later = subst (λ n. Follow text n ms to) follow later
Follow-join text from (l ∷ ls) at ms to follow later = (follow.0, follow.1, follow.2, follow.3, Follow-join text (from + prefix_len is_text (drop from text) + 1) ls at ms to follow.4 later)
