use Rattle.size_core.proofs.Prelude.{◌∙◌, append_assoc, on_ok_weaker}
use Rattle.size_core.specs.Text.{widths_text}
use Rattle.size_core.proofs.text.put_widths.Goals as goal

pub returns : goal.returns
unfolding widths_text
returns c = on_ok_weaker c.put_words.result (λ e. e ∙ rw (c.in_ok-put_wide-2.ensures, c.from-2.ensures, c.in_ok-put_wide.ensures, c.from.ensures) (simp (widths_text, append_assoc))) c.put_words.ensures
