use Rattle.size_core.proofs.Prelude.{◌∙◌, append_assoc, on_ok_weaker}
use Rattle.size_core.specs.Json.{use_json}
use Rattle.size_core.proofs.json.put_use.Goals as goal

pub returns : goal.returns
unfolding use_json
returns c = on_ok_weaker c.put_words.result (λ e. e ∙ rw (c.in_ok-put_number-4.ensures, c.in_ok-put_number-3.ensures, c.in_ok-put_number-2.ensures, c.in_ok-put_number.ensures) (simp (use_json, append_assoc))) c.put_words.ensures
