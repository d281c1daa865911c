-- What a step on a word of a node leaves of what its caller holds, knows, has and answered.
use Rattle.std.proofs.Common.{◌≡◌, ◌++◌, List, length, append-nil, Option, None, Result, Ok, Err, ap, ◌∙◌}
use Rattle.std.specs.Prelude.{MatchResult}
use Rattle.set_model.specs.declared.calls.Call.{Call}
use Rattle.record_memory.specs.declared.steps.StepKind.{StepKind}
use Rattle.record_memory.specs.declared.books.LockedWord.{LockedWord}
use Rattle.record_memory.specs.declared.books.Setup.{Setup}
use Rattle.record_memory.specs.declared.books.View.{View}
use Rattle.record_memory.specs.declared.books.Standing.TheVariants.{Own}
use Rattle.row_words.specs.Refs.{RefParts, LinkParts}
use Rattle.record_rule.specs.Facts.{ShapeFacts, clean}
use Rattle.record_rule.specs.Links.{Origin, entry_for, front_for, own_update, ExchangedLink, PublishedLink, UnlinkedRecord, LeftLink, PublishedBy, UnlinkedBy}
use Rattle.record_rule.specs.Laws.{with_update}
use Rattle.record_table.specs.declared.nodes.Found.{Found}
use Rattle.record_table.specs.declared.passes.Pass.{Pass}
use Rattle.record_table.specs.Handles.{view, since, IsSamePass}
use Rattle.record_table.specs.Nodes.{IsRefused}
use Rattle.reclaim_api.specs.Holds.{KeepsHeld, KeepsButLink}
use Rattle.reclaim_api.proofs.Keeping.{keeps_same, keeps_exchange, keeps_publish, keeps_unlink}
use Rattle.manager.specs.Callers.{AnswersNone, KeepsOwn, KeepsOwnBut}
use Rattle.manager.proofs.OneShare.{all_stay}
use Rattle.manager.proofs.Owns.{owns_mine, owns_but, owns_stay}

module _ {S R : Type 0} (p q : Pass S R) (same : IsSamePass p q) where
  pub began : since q ≡ since p
  began = ap (λ x. x.value.me.0) same.since

  records : (view q).setup.records ≡ (view p).setup.records
  records = ap (λ (k : Setup). k.records) same.setup

  module _ (s : ShapeFacts) (o : Origin) where
    -- a refused exchange leaves all
    refused_keeps : (old link : LinkParts) → IsRefused (view p) o old link (view q) → KeepsHeld p q
    refused_keeps old link e = keeps_same p q began same.setup (ap (λ (v : View). v.own.guard) e.refused.view) (ap (λ (v : View). v.own.notes) e.refused.view) (ap (λ (v : View). v.seen_updates) e.refused.view)

    refused_answers : (old link : LinkParts) → IsRefused (view p) o old link (view q) → AnswersNone (view p) (view q)
    refused_answers old link e = record { answered = ap (λ (v : View). v.own.answered) e.refused.view; front = ap (λ (v : View). v.front) e.refused.view }

    refused_owns : (old link : LinkParts) → IsRefused (view p) o old link (view q) → KeepsOwn (view p) (view q)
    refused_owns old link e = owns_mine (view p) (view q) records (ap (λ (v : View). v.own.mine) e.refused.view)

    -- a step that leaves another link and decides no call answers none
    pub left_answers : {kind : StepKind} {locks : List LockedWord} (old new : LinkParts) (call : Option Call) → LeftLink s (view p) kind o 3 old new call locks (view q) → call ≡ None → AnswersNone (view p) (view q)
    left_answers old new call e none = record {
      answered = ap (λ (v : View). v.own.answered) e.view ∙ ap (λ c. (view p).own.answered ++ entry_for (length e.updates) c) none ∙ append-nil (view p).own.answered;
      front = ap (λ (v : View). v.front) e.view ∙ ap (λ c. front_for (view p).front (with_update e.updates (own_update (view p) c)) c) none;
    }

    pub linked_answers : {kind : StepKind} {locks : List LockedWord} (old : LinkParts) (own : RefParts) (call : Option Call) → PublishedBy s (view p) kind o 3 old own call locks (view q) → call ≡ None → AnswersNone (view p) (view q)
    linked_answers old own call e none = record {
      answered = ap (λ (v : View). v.own.answered) e.view ∙ ap (λ c. (view p).own.answered ++ entry_for (length e.updates) c) none ∙ append-nil (view p).own.answered;
      front = ap (λ (v : View). v.front) e.view ∙ ap (λ c. front_for (view p).front (with_update e.updates (own_update (view p) c)) c) none;
    }

    -- nor does one that takes a record out
    pub out_answers : {kind : StepKind} {locks : List LockedWord} (old : LinkParts) (gone : RefParts) (new : LinkParts) → UnlinkedBy s (view p) kind o 3 old gone new locks (view q) → AnswersNone (view p) (view q)
    out_answers old gone new e = record { answered = ap (λ (v : View). v.own.answered) e.view; front = ap (λ (v : View). v.front) e.view }

    -- and of own records each such step leaves all but what it links
    pub left_owns : {kind : StepKind} {locks : List LockedWord} (old new : LinkParts) (call : Option Call) → LeftLink s (view p) kind o 3 old new call locks (view q) → KeepsOwn (view p) (view q)
    left_owns old new call e = owns_mine (view p) (view q) records (ap (λ (v : View). v.own.mine) e.view)

    pub linked_owns : {kind : StepKind} {locks : List LockedWord} (old : LinkParts) (own : RefParts) (call : Option Call) → PublishedBy s (view p) kind o 3 old own call locks (view q) → KeepsOwnBut own.index (view p) (view q)
    linked_owns old own call e = owns_but (view p) (view q) records own.index None (ap (λ (v : View). v.own.mine) e.view)

    pub out_owns : {kind : StepKind} {locks : List LockedWord} (old : LinkParts) (gone : RefParts) (new : LinkParts) → UnlinkedBy s (view p) kind o 3 old gone new locks (view q) → KeepsOwn (view p) (view q)
    out_owns old gone new e = owns_stay (view p) (view q) records (all_stay (view p) (view q) gone.index _ e.none (ap (λ (v : View). v.own.mine) e.view) Own)

    -- by the answer of an exchange
    module _ {U : Type 0} (old new : LinkParts) (call : Option Call) where
      abbrev Told : Result U Found → Type 0
      Told r = MatchResult r (λ _. ExchangedLink s (view p) o 3 old new call (view q)) (λ found. IsRefused (view p) o old found.link (view q))

      pub exchange_keeps : (r : Result U Found) → Told r → MatchResult r (λ _. KeepsButLink o p q) (λ _. KeepsHeld p q)
      exchange_keeps (Ok u) e = keeps_exchange p q began s o old new call same.setup e
      exchange_keeps (Err found) e = refused_keeps old found.link e

      pub exchange_answers : (r : Result U Found) → Told r → MatchResult r (λ _. call ≡ None → AnswersNone (view p) (view q)) (λ _. AnswersNone (view p) (view q))
      exchange_answers (Ok u) e = left_answers old new call e
      exchange_answers (Err found) e = refused_answers old found.link e

      pub exchange_owns : (r : Result U Found) → Told r → KeepsOwn (view p) (view q)
      exchange_owns (Ok u) e = left_owns old new call e
      exchange_owns (Err found) e = refused_owns old found.link e

    -- of linking an own record
    module _ {U : Type 0} (old : LinkParts) (own : RefParts) (call : Option Call) where
      abbrev ToldLinked : Result U (RefParts × Found) → Type 0
      ToldLinked r = MatchResult r (λ _. PublishedLink s (view p) o 3 old own call (view q)) (λ back. (back.0 ≡ own) × IsRefused (view p) o old back.1.link (view q))

      pub publish_keeps : (r : Result U (RefParts × Found)) → ToldLinked r → MatchResult r (λ _. KeepsButLink o p q) (λ _. KeepsHeld p q)
      publish_keeps (Ok u) e = keeps_publish p q began s o old own call same.setup e
      publish_keeps (Err back) e = refused_keeps old back.1.link e.1

      pub publish_answers : (r : Result U (RefParts × Found)) → ToldLinked r → MatchResult r (λ _. call ≡ None → AnswersNone (view p) (view q)) (λ _. AnswersNone (view p) (view q))
      publish_answers (Ok u) e = linked_answers old own call e
      publish_answers (Err back) e = refused_answers old back.1.link e.1

      pub publish_owns : (r : Result U (RefParts × Found)) → ToldLinked r → MatchResult r (λ _. KeepsOwnBut own.index (view p) (view q)) (λ _. KeepsOwn (view p) (view q))
      publish_owns (Ok u) e = linked_owns old own call e
      publish_owns (Err back) e = refused_owns old back.1.link e.1

    -- and of taking a record out
    module _ (gone : RefParts) (new : LinkParts) where
      abbrev ToldOut : Result RefParts Found → Type 0
      ToldOut r = MatchResult r (λ taken. (taken ≡ gone) × UnlinkedRecord s (view p) o 3 gone new (view q)) (λ found. IsRefused (view p) o (clean gone) found.link (view q))

      pub unlink_keeps : (r : Result RefParts Found) → ToldOut r → MatchResult r (λ _. KeepsButLink o p q) (λ _. KeepsHeld p q)
      unlink_keeps (Ok taken) e = keeps_unlink p q began s o (clean gone) gone new same.setup e.1
      unlink_keeps (Err found) e = refused_keeps (clean gone) found.link e

      pub unlink_answers : (r : Result RefParts Found) → ToldOut r → AnswersNone (view p) (view q)
      unlink_answers (Ok taken) e = out_answers (clean gone) gone new e.1
      unlink_answers (Err found) e = refused_answers (clean gone) found.link e

      pub unlink_owns : (r : Result RefParts Found) → ToldOut r → KeepsOwn (view p) (view q)
      unlink_owns (Ok taken) e = out_owns (clean gone) gone new e.1
      unlink_owns (Err found) e = refused_owns (clean gone) found.link e
