-- The events of a guard's steps.
use Rattle.std.proofs.Common.{◌≡◌, ℕ, ◌+◌, ◌-◌, ◌<◌, ◌≤◌, ◌++◌, length, append-nil, List, get_or-set_same, refl, arith, Option, Some, None, Result, Ok, Err, sym, ap, ◌∙◌, subst}
use Rattle.std.specs.Prelude.{MatchResult, IfOk}
use Rattle.set_model.specs.declared.calls.Call.{Call}
use Rattle.record_memory.specs.declared.steps.StepKind.{StepKind}
use Rattle.record_memory.specs.declared.books.LockedWord.{LockedWord}
use Rattle.record_memory.specs.declared.books.Setup.{Setup}
use Rattle.record_memory.specs.declared.books.View.{View}
use Rattle.record_memory.specs.declared.books.Share.{Share}
use Rattle.record_memory.specs.declared.books.Standing.TheVariants.{TakenOut}
use Rattle.row_words.specs.Refs.{RefParts, LinkParts}
use Rattle.row_words.specs.Packing.{packed_number}
use Rattle.record_rule.specs.Facts.{ShapeFacts, clean}
use Rattle.record_rule.specs.Kinds.{share_in, stored, stored_as, share_after, standing_after}
use Rattle.record_rule.specs.HandingOut.{HasOwn, IsOwnOf}
use Rattle.record_rule.specs.Links.{Origin, entry_for, HasTaken, ExchangedLink, PublishedLink, UnlinkedRecord, LeftLink, PublishedBy, UnlinkedBy}
use Rattle.record_rule.specs.LockedLinks.{StoredLink, PublishedLocked, UnlinkedLocked}
use Rattle.record_rule.proofs.HandingOut.{known_within}
use Rattle.record_table.specs.declared.nodes.Found.{Found}
use Rattle.record_table.specs.declared.nodes.Node.{Node}
use Rattle.record_table.specs.Nodes.{origin, IsRefused}
use Rattle.record_pieces.specs.Manners.{Manner}
use Rattle.manager.proofs.MoveCounts.{stored_moves}
use Rattle.record_pieces.specs.Hands.{is_in_hand, in_hand}
use Rattle.record_pieces.specs.Events.{exchanged, published, unlinked, stored_link, published_locked, unlinked_locked, stored_own, Exchanges, AnswersCall, StoresOver, KeepsStock, Does}
use Rattle.record_pieces.proofs.Hands.{hand_mine, hand_same, hand_more, hand_less, does_still}

-- the call that a step answered, by the entry that it left
answers_call : (v w : View) (position : ℕ) (call : Option Call) → w.own.answered ≡ v.own.answered ++ entry_for position call → AnswersCall None call v.own w.own
answers_call v w position None e = e ∙ append-nil v.own.answered
answers_call v w position (Some call) e = (position, e)

module _ (m : Manner) (s : ShapeFacts) (k : Setup) (v w : View) (setup : v.setup ≡ k) (stock : KeepsStock v.own w.own) (at : Node) where
  -- a refused exchange
  refused_does : (old new link : LinkParts) → IsRefused v (origin at) old link w → Exchanges k at 3 old new (Some link) v.own w.own
  refused_does old new link e = (e.word, e.found, e.another, ap (λ (x : View). x.own.steps) e.refused.view)

  refused_answers : (old link : LinkParts) → IsRefused v (origin at) old link w → w.own.answered ≡ v.own.answered
  refused_answers old link e = ap (λ (x : View). x.own.answered) e.refused.view

  refused_hand : (old link : LinkParts) → IsRefused v (origin at) old link w → in_hand w.own ≡ in_hand v.own
  refused_hand old link e = hand_mine v.own w.own (ap (λ (x : View). x.own.mine) e.refused.view)

  refused_retired : (old link : LinkParts) → IsRefused v (origin at) old link w → w.own.moves.retired ≡ v.own.moves.retired
  refused_retired old link e = ap (λ (x : View). x.own.moves.retired) e.refused.view

  -- one that is made
  made_does : (old new : LinkParts) → Exchanges v.setup at 3 old new None v.own w.own → Exchanges k at 3 old new None v.own w.own
  made_does old new e = subst (λ (x : Setup). Exchanges x at 3 old new None v.own w.own) setup e

  -- what steps on a node's link leave of what is in hand: the same,
  left_hand : {kind : StepKind} {locks : List LockedWord} (old new : LinkParts) (call : Option Call) → LeftLink s v kind (origin at) 3 old new call locks w → in_hand w.own ≡ in_hand v.own
  left_hand old new call e = hand_mine v.own w.own (ap (λ (x : View). x.own.mine) e.view)

  -- one less where it was linked,
  linked_hand : {kind : StepKind} {locks : List LockedWord} (old : LinkParts) (own : RefParts) (row : List ℕ) (call : Option Call) → HasOwn v own row → PublishedBy s v kind (origin at) 3 old own call locks w → in_hand w.own + 1 ≡ in_hand v.own
  linked_hand old own row call has e = hand_less v w own.index (Some has.share) None has.known (ap (λ (x : View). x.own.mine) e.view) (known_within v.own.mine (own.index - 1) has.share has.known) (ap is_in_hand has.standing_is) refl

  -- and one more where it was taken out
  out_hand : {kind : StepKind} {locks : List LockedWord} (old : LinkParts) (gone : RefParts) (new : LinkParts) → 0 < v.setup.records → UnlinkedBy s v kind (origin at) 3 old gone new locks w → in_hand w.own ≡ in_hand v.own + 1
  out_hand old gone new any u = hand_more v w gone.index None _ u.none (ap (λ (x : View). x.own.mine) u.view) (let a = u.within in let b = u.mine in omega arith) refl refl

  pub exchange_does : {U : Type 0} (old new : LinkParts) (call : Option Call) (r : Result U Found) → MatchResult r (λ _. ExchangedLink s v (origin at) 3 old new call w) (λ found. IsRefused v (origin at) old found.link w)
      → MatchResult r (λ _. Does m k (exchanged at 3 old new call None) v.own w.own) (λ found. Does m k (exchanged at 3 old new call (Some found.link)) v.own w.own)
  exchange_does old new call (Ok u) e = does_still refl refl refl (left_hand old new call e) (ap (λ (x : View). x.own.moves.retired) e.view) (made_does old new (ap (λ (x : View). x.own.steps) e.view), answers_call v w (length e.updates) call (ap (λ (x : View). x.own.answered) e.view), stock)
  exchange_does old new call (Err found) e = does_still refl refl refl (refused_hand old found.link e) (refused_retired old found.link e) (refused_does old new found.link e, refused_answers old found.link e, stock)

  -- of an own record
  pub publish_does : {U : Type 0} (old : LinkParts) (own : RefParts) (row : List ℕ) (call : Option Call) → HasOwn v own row → (r : Result U (RefParts × Found))
      → MatchResult r (λ _. PublishedLink s v (origin at) 3 old own call w) (λ back. (back.0 ≡ own) × IsRefused v (origin at) old back.1.link w)
      → MatchResult r (λ _. Does m k (published at 3 old own call None) v.own w.own) (λ back. Does m k (published at 3 old own call (Some back.1.link)) v.own w.own)
  publish_does old own row call has (Ok u) e = record {
    acts = (made_does old (clean own) (ap (λ (x : View). x.own.steps) e.view), answers_call v w (length e.updates) call (ap (λ (x : View). x.own.answered) e.view), stock);
    hand = omega (arith, linked_hand old own row call has e);
    retires = omega (arith, ap (λ (x : View). x.own.moves.retired) e.view);
  }
  publish_does old own row call has (Err back) e = does_still refl refl refl (refused_hand old back.1.link e.1) (refused_retired old back.1.link e.1) (refused_does old (clean own) back.1.link e.1, refused_answers old back.1.link e.1, stock)

  -- of a held record
  pub unlink_does : (gone : RefParts) (new : LinkParts) → 0 < v.setup.records → (r : Result RefParts Found) → MatchResult r (λ taken. (taken ≡ gone) × UnlinkedRecord s v (origin at) 3 gone new w) (λ found. IsRefused v (origin at) (clean gone) found.link w)
      → MatchResult r (λ _. Does m k (unlinked at 3 gone new None) v.own w.own) (λ found. Does m k (unlinked at 3 gone new (Some found.link)) v.own w.own)
  unlink_does gone new any (Ok taken) e = let u = e.1 in record {
    acts = (made_does (clean gone) new (ap (λ (x : View). x.own.steps) u.view), stock);
    hand = omega (arith, out_hand (clean gone) gone new any u);
    retires = omega (arith, ap (λ (x : View). x.own.moves.retired) u.view);
  }
  unlink_does gone new any (Err found) e = does_still refl refl refl (refused_hand (clean gone) found.link e) (refused_retired (clean gone) found.link e) (refused_does (clean gone) new found.link e, stock)

  -- a store in a link that its caller has locked
  over_does : (old new : LinkParts) → StoresOver v.setup at 3 old new v.own w.own → StoresOver k at 3 old new v.own w.own
  over_does old new e = subst (λ (x : Setup). StoresOver x at 3 old new v.own w.own) setup e

  pub stored_does : (old new : LinkParts) (call : Option Call) → StoredLink s v (origin at) 3 old new call w → Does m k (stored_link at 3 old new call) v.own w.own
  stored_does old new call e = does_still refl refl refl (left_hand old new call e) (ap (λ (x : View). x.own.moves.retired) e.view) (over_does old new (ap (λ (x : View). x.own.steps) e.view), answers_call v w (length e.updates) call (ap (λ (x : View). x.own.answered) e.view), stock)

  pub linked_does : (old : LinkParts) (own : RefParts) (row : List ℕ) (call : Option Call) → HasOwn v own row → PublishedLocked s v (origin at) 3 old own call w → Does m k (published_locked at 3 old own call) v.own w.own
  linked_does old own row call has e = record {
    acts = (over_does old (clean own) (ap (λ (x : View). x.own.steps) e.view), answers_call v w (length e.updates) call (ap (λ (x : View). x.own.answered) e.view), stock);
    hand = omega (arith, linked_hand old own row call has e);
    retires = omega (arith, ap (λ (x : View). x.own.moves.retired) e.view);
  }

  pub out_does : (old : LinkParts) (gone : RefParts) (new : LinkParts) → 0 < v.setup.records → old.target ≡ Some gone → UnlinkedLocked s v (origin at) 3 old gone new w → Does m k (unlinked_locked at 3 old gone new) v.own w.own
  out_does old gone new any leads e = record {
    acts = (leads, over_does old new (ap (λ (x : View). x.own.steps) e.view), stock);
    hand = omega (arith, out_hand old gone new any e);
    retires = omega (arith, ap (λ (x : View). x.own.moves.retired) e.view);
  }

-- the store in an own record
pub store_does : {m : Manner} {k : Setup} (v w : View) (own : RefParts) (word payload : ℕ) → IsOwnOf v own → w ≡ stored v own.index word (packed_number own.generation payload) → KeepsStock v.own w.own → Does m k (stored_own own word payload) v.own w.own
store_does v w own word payload has e stock = let h = has.1 in let value = packed_number own.generation payload in let is = e ∙ ap (stored_as v own.index word value) h.known in
    does_still refl refl refl
    (hand_same v w own.index (Some h.share) (Some (share_after h.share word value)) h.known (ap (λ (x : View). x.own.mine) is) (known_within v.own.mine (own.index - 1) h.share h.known) (ap (λ q. is_in_hand (standing_after q)) h.standing_is ∙ sym (ap is_in_hand h.standing_is)))
    (ap (λ (x : View). x.own.moves.retired) is ∙ (stored_moves h.share.standing v.own.moves).retired)
    ((_, ap (λ (x : View). x.own.steps) is), stock)

-- what was taken out may be retired
pub taken_now : {kind : StepKind} {locks : List LockedWord} (s : ShapeFacts) (v w : View) (o : Origin) (old : LinkParts) (gone : RefParts) (new : LinkParts) → 0 < v.setup.records → UnlinkedBy s v kind o 3 old gone new locks w → (h : Share) × HasTaken w gone h
taken_now s v w o old gone new any told = let h : Share = record { standing = TakenOut; generation = gone.generation; taken_number = length told.taken_out; words = told.words } in (
  h,
  record {
    within = subst (λ (x : View). gone.index ≤ x.setup.records) (sym told.view) told.within;
    known = ap (λ (x : View). share_in x gone.index) told.view ∙ get_or-set_same v.own.mine (gone.index - 1) (Some h) None (let l = told.mine in let k = told.within in omega arith);
    standing = refl;
    generation = refl;
    three = told.three;
  },
)

-- where it was
pub taken_ok : (s : ShapeFacts) (v w : View) (o : Origin) (gone : RefParts) (new : LinkParts) → 0 < v.setup.records → (r : Result RefParts Found) → MatchResult r (λ taken. (taken ≡ gone) × UnlinkedRecord s v o 3 gone new w) (λ found. IsRefused v o (clean gone) found.link w)
    → IfOk r (λ taken. (h : Share) × HasTaken w taken h)
taken_ok s v w o gone new any (Ok taken) e = subst (λ (x : RefParts). (h : Share) × HasTaken w x h) (sym e.0) (taken_now s v w o (clean gone) gone new any e.1)
taken_ok s v w o gone new any (Err found) e = tt
