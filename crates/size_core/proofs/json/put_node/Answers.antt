use Rattle.size_core.proofs.Prelude.{◌∙◌, append_assoc, on_ok_weaker}
use Rattle.size_core.specs.Json.{node_json}
use Rattle.size_core.proofs.json.put_node.Goals as goal

pub returns : goal.returns
unfolding node_json
returns c = on_ok_weaker c.put_words-3.result (λ e. e ∙ rw (c.in_ok-put_stores.ensures, c.in_ok-put_words-2.ensures, c.in_ok-put_queue.ensures, c.in_ok-put_serves.ensures, c.in_ok-put_address.ensures, c.deref.ensures.value, c.in_ok-put_words.ensures) (simp (node_json, append_assoc))) c.put_words-3.ensures
