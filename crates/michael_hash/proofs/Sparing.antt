-- A call of the hash table takes a spare record of its caller's before it draws one.
use Rattle.std.proofs.Common.{◌≡◌, ℕ, ◌≤◌, [], ◌∷◌, ◌++◌, false, sym, ◌∙◌, subst}
use Rattle.std.proofs.lemmas.Bool.{true≢false}
use Rattle.atomic_table.proofs.Lists.{at_longer}
use Rattle.set_model.specs.declared.calls.Call.{Call}
use Rattle.set_model.specs.declared.calls.Call.TheVariants.{Insert, Remove, Search}
use Rattle.set_model.specs.declared.calls.InsertAnswer.{InsertAnswer}
use Rattle.set_model.specs.declared.calls.InsertAnswer.TheVariants as insertion
use Rattle.set_model.specs.Machine.{is_insertion}
use Rattle.record_memory.specs.declared.books.Book.{Book}
use Rattle.record_memory.specs.declared.books.Setup.{Setup}
use Rattle.record_memory.specs.declared.steps.Step.{Step}
use Rattle.record_memory.specs.declared.steps.Word.TheVariants.{Drawn}
use Rattle.record_rule.specs.Facts.{At}
use Rattle.record_rule.specs.Standings.{is_spare}
use Rattle.reclaim_api.specs.Frames.{had, AddsSteps}
use Rattle.record_pieces.specs.Manners.{Manner}
use Rattle.record_pieces.specs.Events.{KeepsStock, begun, ended}
use Rattle.set_api.specs.declared.answer.Answer.{Answer}
use Rattle.set_api.specs.declared.answer.Answer.TheVariants as answer
use Rattle.set_api.specs.Answers.{of_insertion}
use Rattle.set_api.specs.Drawing.{TakesSpareFirst}
use Rattle.michael_hash.specs.Pieces.{MakesPiece}
use Rattle.record_pieces.proofs.Stock.{OnlyAdds, both_keep, stock_then, keeps_one, keeps_all, parts, adds_all, none_spare}
use Rattle.list_calls.proofs.Stock.{DrewOne, GaveBack, Leaves, kept_gave, then_drew, drew_then, then_gave, gave_then}
use Rattle.michael_list.proofs.Stock.{inserts_leave, removes_keep, searches_keep}

-- some step of the caller's found all these records drawn
abbrev pub SawAllDrawn : ℕ → Book → Type 0
SawAllDrawn records b = (place : ℕ) × (t : Step) × At b.steps place t × (t.word ≡ Drawn) × (records ≤ t.found)

-- whatever an insertion is answered, it drew one record at most
leaves_drew : (m : Manner) (k : Setup) (given : InsertAnswer) (b c : Book) → Leaves m k given b c → DrewOne b c
leaves_drew m k (insertion.Done added) b c h = h
leaves_drew m k (insertion.Full found) b c h = (kept_gave h.0).drew
leaves_drew m k (insertion.Again hops) b c h = h.drew

module _ (m : Manner) (k : Setup) (only : OnlyAdds m k) (shows : (b c : Book) (n : ℕ) → m.refuses k b n c → SawAllDrawn k.records c) where
  -- between the begin and the end of its guard
  within : (key budget : ℕ) (a : Answer) (b c : Book) → MakesPiece m k (Insert key) budget a b c
      → (given : InsertAnswer) × (d : Book) × (e : Book) × (a ≡ of_insertion given) × KeepsStock b d × KeepsStock e c × AddsSteps e c × Leaves m k given d e
  within key budget a b c h =
      let p = parts m k h.0 (ended ∷ []) h.2.0 c h.2.2 in (
        h.1.0,
        h.2.0,
        p.0,
        h.1.1,
        keeps_one m k begun b h.2.0 tt h.2.1,
        keeps_all m k (ended ∷ []) p.0 c (tt, tt) p.2,
        adds_all m k only (ended ∷ []) p.0 c p.2,
        inserts_leave m k h.2.0 p.0 h.1.2 p.1,
      )

  drew : (key budget : ℕ) (a : Answer) (b c : Book) → MakesPiece m k (Insert key) budget a b c → DrewOne b c
  drew key budget a b c h =
      let w = within key budget a b c h in
      drew_then (then_drew w.4 (leaves_drew m k w.0 w.1 w.2 w.7)) w.5

  gave : (hops : ℕ) (given : InsertAnswer) (d e : Book) → answer.Again hops ≡ of_insertion given → Leaves m k given d e → GaveBack d e
  gave hops (insertion.Done added) d e is h = absurd (cc)
  gave hops (insertion.Full found) d e is h = absurd (cc)
  gave hops (insertion.Again others) d e is h = h

  saw : (found : ℕ) (given : InsertAnswer) (d e : Book) → answer.Full found ≡ of_insertion given → Leaves m k given d e → (had is_spare d ≡ 0) × KeepsStock d e × SawAllDrawn k.records e
  saw found (insertion.Done added) d e is h = absurd (cc)
  saw found (insertion.Full n) d e is h =
      let none = none_spare h.1 h.5.idle_is in
      (sym h.3.spare ∙ none, h.0, subst (SawAllDrawn k.records) h.4 (shows h.5.between h.2 n h.5.refused))
  saw found (insertion.Again others) d e is h = absurd (cc)

  others_keep : (call : Call) (budget : ℕ) (a : Answer) (b c : Book) → is_insertion call ≡ false → MakesPiece m k call budget a b c → KeepsStock b c
  others_keep (Insert key) budget a b c other h = absurd (true≢false other)
  others_keep (Remove key) budget a b c other h = keeps_all m k (begun ∷ h.0 ++ ended ∷ []) b c (tt, both_keep h.0 (ended ∷ []) (removes_keep h.1.2) (tt, tt)) h.2
  others_keep (Search key) budget a b c other h = keeps_all m k (begun ∷ h.0 ++ ended ∷ []) b c (tt, both_keep h.0 (ended ∷ []) (searches_keep h.1.2) (tt, tt)) h.2

  pub takes_spare_first : TakesSpareFirst (MakesPiece m k) k.records
  takes_spare_first = record {
    adds = λ call budget a b c h. adds_all m k only (begun ∷ h.0 ++ ended ∷ []) b c h.2;
    others = others_keep;
    one = λ key budget a b c h. (drew key budget a b c h).one;
    spare_first = λ key budget a b c h some. (drew key budget a b c h).spare_first some;
    given_back = λ key budget hops b c h.
        let w = within key budget (answer.Again hops) b c h in
        (gave_then (then_gave w.4 (gave hops w.0 w.1 w.2 w.3 w.7)) w.5).given_back;
    full = λ key budget found b c h.
        let w = within key budget (answer.Full found) b c h in
        let f = saw found w.0 w.1 w.2 w.3 w.7 in
        record {
          spare = sym w.4.spare ∙ f.0;
          drawn = (stock_then (stock_then w.4 f.1) w.5).drawn;
          place = f.2.0;
          step = f.2.1;
          made = subst (λ l. At l f.2.0 f.2.1) (sym w.6.1) (at_longer w.2.steps w.6.0 f.2.0 f.2.1 f.2.2);
          word = f.2.3;
          found = f.2.4;
        };
  }
