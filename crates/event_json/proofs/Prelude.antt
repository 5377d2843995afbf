-- The names that the proofs of this crate take from outside, passed on from one place. Declares nothing.
pub use Rattle.std.proofs.Common.{[], ◌∙◌, ◌∷◌, ap, sym, subst, ◌≡◌, List, arith, ℕ, ◌++◌, ◌+◌, Option, decimal, drop, ◌<◌, ◌^◌, ◌≤◌, append-nil, append_assoc, codes, length, refl, ◌%◌, ◌-◌, Bool, None, Some, false, get_or, if◌then◌else◌, length-drop, map, not, take, true, ◌&&◌, ◌*◌, ◌==◌}
pub use Rattle.std.proofs.lemmas.Fmt.{decimal_by_steps_wide}
pub use Rattle.std.proofs.lemmas.Result.{on_ok_weaker}
pub use Rattle.std.specs.Char.{is_ascii_digit}
pub use Rattle.outside_core.specs.Report.{line_of, ranks_text, start_words}
pub use Rattle.outside_core.specs.Written.{Appended, AppendedPrefix}
pub use Rattle.packet_defs.specs.declared.packet.Packet.{Packet}
pub use Rattle.policy_defs.specs.Policy.{Policy, name_at}
pub use Rattle.report_core.specs.Gathered.{text_of}
pub use Rattle.sched_defs.specs.Events.{Arrived, Departed, Dropped, Empty, Outcome, dropped_in, empty_in, popped_in, pushed_in}
pub use Rattle.sched_defs.specs.declared.rate.LinkRate.{LinkRate}
pub use Rattle.tree_defs.specs.Tree.{Address}
pub use Rattle.event_json.specs.Json.{capped, times_of, AreCapped, counts_in, json_end, json_from, json_line, json_text, most_count}
pub use Rattle.event_json.specs.JsonReports.{CountsOutcomes, GrowsBy, RecordsNothing}
pub use Rattle.event_json.specs.Laws.{Is64, IsPlain, JsonSaysTheReport, ShowsStart}
pub use Rattle.event_json.specs.Objects.{numbers_text, arrive_line, depart_line, drop_line, empty_line, times_members}
pub use Rattle.event_json.specs.ReadBack.{after_colons, leading, number_at, past_colon, text_at, is_no_bracket, is_no_quote, report_line_by, report_line_of, slash_for_comma, word_of}
pub use Rattle.event_json.specs.Recording.{AddsJson, CutsJson}
pub use Rattle.event_json.specs.declared.counts.Counts.{Counts}
pub use Rattle.event_json.specs.declared.json.JsonReport.{JsonReport}
