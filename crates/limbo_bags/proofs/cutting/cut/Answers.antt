use Rattle.std.proofs.Common.{◌-◌, None, refl, ap, ◌∙◌, arith}
use Rattle.row_words.specs.Rows.{Row, with_next}
use Rattle.limbo_bags.proofs.Cuts.{IsCut, chain_cut, others_kept_by_cut}
use Rattle.limbo_bags.proofs.cutting.cut.Goals as goal

is_cut : (g : _) (c : goal.After-store_chain g) → IsCut (g.W.ChainWords.owns c.args.words.now) (g.W.ChainWords.owns c.store_chain.new.self) (g.W.ChainWords.row_of c.args.words.now) (g.W.ChainWords.row_of c.store_chain.new.self) 31 c.args.chain.now
    (record { head = c.args.chain.now.head; count = 32 }) (record { head = c.load_chain-chain.result; count = c.args.chain.now.count - 32 }) c.record_after-last.result
is_cut g c =
    let found = c.record_after-last.ensures in
    let read = c.load_chain-chain.ensures in
    let wrote = c.store_chain.ensures in
    let last = c.record_after-last.result in
    record {
      list = c.requires.list;
      fits = omega (arith, c.requires.enough);
      place = found.place;
      stored = wrote.stored ∙ ap (λ row. with_next row None) (read.rows last ∙ found.rows last);
      others = λ q n. wrote.others q n ∙ read.rows q ∙ found.rows q;
      owned = λ q w. wrote.owned q (read.owned q (found.owns q w));
      first_head = refl;
      first_count = refl;
      rest_head = read.next ∙ ap (λ (row : Row). row.next) (found.rows last);
      rest_count = refl;
    }

pub returns-clause-refs : goal.returns-clause-refs
returns-clause-refs g c = (chain_cut _ _ _ _ _ _ _ _ _ (is_cut g c)).refs

pub returns-clause-first : goal.returns-clause-first
returns-clause-first g c = (chain_cut _ _ _ _ _ _ _ _ _ (is_cut g c)).first_list

pub returns-clause-rest : goal.returns-clause-rest
returns-clause-rest g c = (chain_cut _ _ _ _ _ _ _ _ _ (is_cut g c)).rest_list

pub returns-clause-apart : goal.returns-clause-apart
returns-clause-apart g c = (chain_cut _ _ _ _ _ _ _ _ _ (is_cut g c)).apart

pub returns-clause-times : goal.returns-clause-times
returns-clause-times g c = (chain_cut _ _ _ _ _ _ _ _ _ (is_cut g c)).times

pub returns-clause-chains : goal.returns-clause-chains
returns-clause-chains g c other list apart = others_kept_by_cut _ _ _ _ _ _ _ _ other _ (is_cut g c) list apart
