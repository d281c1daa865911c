use Rattle.std.proofs.Common.{◌≡◌, ◌+◌, ◌≤◌, ◌<◌, ℕ, sym, refl, ap, ◌∙◌, arith}
use Rattle.record_memory.specs.declared.books.Setup.{Setup}
use Rattle.record_memory.specs.declared.steps.Word.TheVariants.{Cursor}
use Rattle.record_memory.specs.Memory.{address, word_at}
use Rattle.record_memory.specs.declared.books.View.{View}
use Rattle.record_memory.proofs.Stores.{word_at-cursor}
use Rattle.record_rule.proofs.OwnDraws.{draws_own}
use Rattle.record_table.specs.Handles.{setup_of}
use Rattle.record_table.proofs.Recording.{adds_own_draw}
use Rattle.record_table.proofs.table.Table.store_cursor.Goals as goal

-- the cursor's place, by the table's numbers
place : (g : _) (c : goal.After-drawn-1 g) → c.cursor-word.result ≡ address (setup_of c.args.self.now).callers (Cursor c.args.pass.now.seat.me.0.own.caller)
place g c = let a = c.cursor-word.ensures in let b = c.args.pass.now.numbered in let e = ap (λ (z : Setup). z.callers) c.args.self.now.setup_is in omega arith

pub store-requires-clause-lawful : goal.store-requires-clause-lawful
store-requires-clause-lawful g c =
    draws_own _ c.args.self.now.numbers c.requires.once _ _ _ c.args.pass.now.seat.me.0 c.cursor-word.result c.args.drawn (place g c) c.requires.pass.present c.requires.pass.setup c.requires.drawn c.requires.left

pub store-requires-clause-recorded : goal.store-requires-clause-recorded
store-requires-clause-recorded g c = let k : Setup = setup_of c.args.self.now in let v : View = c.args.pass.now.seat.me.0 in
    let counted : v.own.caller < k.callers = (let e = ap (λ (z : Setup). z.callers) c.requires.pass.setup in let h = c.args.pass.now.counted in omega arith) in
    λ n w t. adds_own_draw v _ c.args.drawn n w (ap (word_at k.callers) (place g c) ∙ word_at-cursor k.callers k.records v.own.caller counted) t.0 t.1
