-- The rows of a closed table of sorted lists, as its words show them.
use Rattle.std.proofs.Common.{◌≡◌, ℕ, ◌+◌, ◌-◌, ◌*◌, ◌<◌, List, [], map, length, get_or, inr, sym, refl, ap, ◌∙◌, subst, arith}
use Rattle.std.proofs.lemmas.List.{length-map}
use Rattle.atomic_table.proofs.Lists.{at_map}
use Rattle.row_words.specs.Packing.{IsPackedLink}
use Rattle.record_memory.specs.declared.books.Setup.{Setup}
use Rattle.record_memory.specs.declared.steps.Word.TheVariants.{Field}
use Rattle.record_memory.proofs.Stores.{loads}
use Rattle.record_rule.specs.Records.{Record}
use Rattle.record_rule.proofs.Lists.{at_below, get_at}
use Rattle.list_facts.specs.Paths.{row_word}
use Rattle.list_facts.specs.ClosedLists.{table_rows, AreListed}

-- where a word of a row lies
pub row_word_lies : (setup : Setup) (words : List ℕ) (i f : ℕ) → i < setup.records → f < 8 → get_or words (20 + 5 * setup.callers + 8 * i + f) 0 ≡ row_word (table_rows setup words) i f
row_word_lies setup words i f low small =
    ap (λ (k : ℕ). get_or words (20 + 5 * setup.callers + 8 * k + f) 0) (let e : i ≡ i + 1 - 1 = omega arith in e)
    ∙ loads setup.callers setup.records words (Field (i + 1) f) (omega arith, omega (arith, low), small)
    ∙ ap (λ (k : ℕ). row_word (table_rows setup words) k f) (let e : i + 1 - 1 ≡ i = omega arith in e)

module _ {setup : Setup} {words : List ℕ} {records : List Record} (c : AreListed setup words records) where
  -- there is a row for each record
  pub rows_long : length (table_rows setup words) ≡ setup.records
  rows_long = ap length (sym c.rows) ∙ length-map records (λ (r : Record). r.row) ∙ c.many

  -- word 3 of each is a link
  pub packed_links : (i : ℕ) → i < setup.records → IsPackedLink (row_word (table_rows setup words) i 3)
  packed_links i low = let x = at_below records i (omega (arith, low, c.many)) in
      subst (λ (l : List (List ℕ)). IsPackedLink (row_word l i 3)) c.rows
      (subst (λ (l : List ℕ). IsPackedLink (get_or l 3 0)) (sym (get_at (map (λ (r : Record). r.row) records) i x.0.row [] (at_map (λ (r : Record). r.row) records i x.0 x.1))) ((c.sound i x.0 x.1).links 3 (inr refl)).0)
