use Rattle.size_core.proofs.Prelude.{◌∙◌, append_assoc, on_ok_weaker}
use Rattle.size_core.specs.Text.{push_text}
use Rattle.size_core.proofs.text.put_push.Goals as goal

pub returns : goal.returns
unfolding push_text
returns c = on_ok_weaker c.put_limit.result (λ e. e ∙ rw (c.in_ok-put_words-2.ensures, c.in_ok-put_address.ensures, c.deref.ensures.value, c.in_ok-put_words.ensures, c.in_ok-put_number-2.ensures, c.in_ok-put_number.ensures) (simp (push_text, append_assoc))) c.put_limit.ensures
