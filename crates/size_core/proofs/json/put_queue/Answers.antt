use Rattle.size_core.proofs.Prelude.{◌∙◌, append_assoc, on_ok_weaker}
use Rattle.size_core.specs.Json.{queue_json}
use Rattle.size_core.proofs.json.put_queue.Goals as goal

pub returns : goal.returns
unfolding queue_json
returns c = on_ok_weaker c.put_field-2.result (λ e. e ∙ rw (c.in_ok-put_field.ensures, c.in_ok-put_counts.ensures) (simp (queue_json, append_assoc))) c.put_field-2.ensures
