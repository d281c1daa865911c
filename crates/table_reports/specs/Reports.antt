-- What a report tells of the keys of a closed table, and of its records.
use Rattle.std.specs.Prelude.{◌≡◌, ◌+◌, List, count_by, sum_by}
use Rattle.closed_lists.specs.Listed.{AreListsOf}
use Rattle.key_sums.specs.Sums.{AreSums, closed_rows}
use Rattle.key_sums.specs.Tallies.{is_addition, is_removal, key_sum}
use Rattle.record_rule.specs.PlaceCounts.{is_from}
use Rattle.record_rule.specs.Records.{Record}
use Rattle.record_table.specs.Closing.{closed_setup, history_of}
use Rattle.record_table.specs.declared.closing.Closed.{Closed}
use Rattle.report_text.specs.declared.report.Played.{Played}
use Rattle.report_text.specs.declared.report.Report.{Report}
use Rattle.row_words.specs.Refs.{RefParts}
use Rattle.run_facts.specs.Counts.{anew_in, linked_in, marked_in}
use Rattle.run_facts.specs.Replies.{with_replies}
use Rattle.set_model.specs.declared.calls.Call.{Call}
use Rattle.set_model.specs.declared.calls.Counts.{Counts}
use Rattle.set_model.specs.declared.calls.Reply.{Reply}
use Rattle.set_model.specs.Histories.{keys_of, removals_in}
use Rattle.set_model.specs.Keys.{size_of, sum_of}

-- Its size and its sum are those of the keys that the table's records show, and these are the keys that its history leaves
pub record TellsKeys (closed : Closed) (report : Report) : Type 0 where
  pub shown : AreSums closed report.size report.sum
  pub size_is : report.size ≡ size_of (keys_of (history_of closed))
  pub sum_is : report.sum ≡ sum_of (keys_of (history_of closed))

-- the calls of a caller with the replies that are printed for them
abbrev pub printed_answers : Played → List (Call × Reply)
printed_answers played = with_replies played.calls played.replies

-- What the printed replies added, less what they took away, is the printed size, and their keys add up to the printed sum
pub record RepliesAddUp (report : Report) : Type 0 where
  pub size : report.size + sum_by (λ p. count_by is_removal (printed_answers p)) report.callers ≡ sum_by (λ p. count_by is_addition (printed_answers p)) report.callers
  pub sum : report.sum + sum_by (λ p. key_sum is_removal (printed_answers p)) report.callers ≡ sum_by (λ p. key_sum is_addition (printed_answers p)) report.callers

-- Its counts are those of the closed table's rows, of its records by where they are, and of its history
pub record TellsCounts (closed : Closed) (n : Counts) : Type 0 where
  -- the records, of which the linked ones stand on the paths of the roots
  pub records : List Record
  pub taken_out : List RefParts
  pub lists : AreListsOf closed records taken_out
  -- roots aside, so many rows have the first generation or a later one, and these lie so much behind the first
  pub drawn : (closed_setup closed).roots + n.drawn ≡ count_by (is_from (closed_setup closed).first) (closed_rows closed)
  pub reused : n.reused ≡ anew_in closed
  -- the history has a removal for each record that was retired and for each that is linked with a mark
  pub retired : n.retired + marked_in records ≡ removals_in (history_of closed)
  pub freed : n.freed ≡ n.reused + n.free + n.spent
  pub limbo : n.limbo + n.freed ≡ n.retired
  -- as many were drawn as are linked and in these places
  pub places : n.limbo + n.free + n.spare + n.spent + linked_in records ≡ n.drawn
