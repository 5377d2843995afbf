use Rattle.sched_core.proofs.Prelude.{arith, ap, ◌∙◌, sym, ℕ, ◌++◌, is_some, nat_eq, ap₂, ◌||◌, length-append, list_any-append, get, keys, packet_within, numbers_below}
use Rattle.std.specs.Cmp.{nat_eq_equiv}
use Rattle.std.proofs.lemmas.Map.Entries.{length-keys_of}
use Rattle.std.proofs.lemmas.Map.Made.{is_some-lookup}
use Rattle.std.proofs.lemmas.Map.Views.{Contains-from_any, list_any-from_Contains, exact_unsigned_eq}
use Rattle.sched_core.specs.Chunks.{packet_from}
use Rattle.sched_core.specs.Windows.{numbers_of}
use Rattle.sched_core.specs.Held.{held_at, numbers_in}
use Rattle.sched_core.proofs.NumberLaws.{any-found, distinct-below}
use Rattle.sched_core.proofs.HeldNumbers.{is_some-or_stray}
use Rattle.sched_core.proofs.held.Held.len.Goals as goal

pub returns-clause-len : goal.returns-clause-len
unfolding numbers_in
returns-clause-len c =
    let h = c.args.self.now in
    omega (arith, c.filled.ensures.numbers, c.len.ensures.len, length-keys_of h.strays.entries, length-append (numbers_of h.window) (keys h.strays))

pub returns-clause-numbers : goal.returns-clause-numbers
unfolding numbers_in numbers_of held_at packet_from
returns-clause-numbers c =
    let h = c.args.self.now in
    let w = h.window in
    let at = packet_within w.first w.chunks.items in
    let numbers = numbers_below at w.end ++ keys h.strays in
    let found = λ (n : ℕ). list_any-append (nat_eq n) (numbers_below at w.end) (keys h.strays)
    ∙ ap₂ ◌||◌ (any-found at w.end n w.behind) (sym (is_some-lookup (nat_eq n) h.strays.entries))
    ∙ sym (is_some-or_stray (at n) (get nat_eq h.strays n)) in
    record {
      distinct = distinct-below at w.end (keys h.strays) c.len.ensures.unique (λ n some. sym (is_some-lookup (nat_eq n) h.strays.entries) ∙ ap is_some (h.apart n some));
      each = λ n. ((λ within. sym (found n) ∙ list_any-from_Contains nat_eq_equiv n numbers within), (λ some. Contains-from_any exact_unsigned_eq n numbers (found n ∙ some)));
    }
