use Rattle.std.proofs.Common.{ap, subst, sym, ◌∙◌, ◌≡◌, List, ℕ, length, []}
use Rattle.atomic_table.specs.Table.{opening}
use Rattle.record_memory.specs.declared.books.Setup.{Setup}
use Rattle.record_memory.specs.Memory.{size}
use Rattle.record_rule.specs.Records.{IsSetup}
use Rattle.record_rule.specs.World.{Rule}
use Rattle.record_rule.specs.Opening.{opening_words, first_view}
use Rattle.record_rule.proofs.Opens.{opens, wide_is}
use Rattle.record_table.proofs.table.Table.over.Goals as goal

pub of_words-requires : goal.of_words-requires
of_words-requires g c = let k : Setup = c.args.setup in let e = c.as_slice.ensures.value ∙ c.requires.words in
    subst (λ (ws : List ℕ). Rule g.S.Shape.facts g.R.Cover.facts k (opening ws [] (first_view g.R.Cover.facts.first k))) (sym e)
    (opens k c.requires.numbers g.S.Shape.facts g.R.Cover.facts g.S.Shape.laws g.R.Cover.laws (c.requires.set ∙ sym g.S.Shape.named) (c.requires.reclaimer ∙ sym g.R.Cover.named))

pub invariant_of-table : goal.invariant_of-table
invariant_of-table g c = let k : Setup = c.args.setup in let same = c.in_ok-board.ensures.5 in let wide : length (opening_words k) ≡ size k.callers k.records = wide_is k c.requires.numbers.rooted in
    let room = ap length c.requires.words in let is = c.as_slice.ensures.value ∙ c.requires.words in record {
      setup_is = sym same;
      first_is = c.requires.first ∙ sym (ap (λ (x : Setup). x.first) same);
      numbers = subst IsSetup (sym same) c.requires.numbers;
      sized = c.in_ok-board.ensures.0 ∙ ap length is ∙ wide ∙ sym (ap (λ (x : Setup). size x.callers x.records) same);
      roomy = room ∙ wide ∙ sym (ap (λ (x : Setup). size x.callers x.records) same);
      no_slots = c.in_ok-board.ensures.1;
    }
