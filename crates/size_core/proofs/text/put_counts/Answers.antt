use Rattle.size_core.proofs.Prelude.{◌∙◌, append_assoc, on_ok_weaker}
use Rattle.size_core.specs.Text.{counts_text}
use Rattle.size_core.proofs.text.put_counts.Goals as goal

pub returns : goal.returns
unfolding counts_text
returns c = on_ok_weaker c.put_words.result (λ e. e ∙ rw (c.in_ok-put_number-2.ensures, c.in_ok-put_number.ensures) (simp (counts_text, append_assoc))) c.put_words.ensures
