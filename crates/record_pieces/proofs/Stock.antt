-- What events leave of the records that their caller has spare and has drawn, and that they only add steps.
use Rattle.std.proofs.Common.{◌≡◌, ℕ, zero, suc, List, [], ◌∷◌, ◌++◌, Bool, true, false, Option, Some, None, get_or, refl, sym, ap, ◌∙◌, subst, append_assoc, arith, ◌≤◌}
use Rattle.std.specs.List.{AllByRecursion, count_by}
use Rattle.record_memory.specs.declared.books.Book.{Book}
use Rattle.record_memory.specs.declared.books.Setup.{Setup}
use Rattle.record_memory.specs.declared.books.Share.{Share}
use Rattle.record_memory.specs.declared.books.Standing.{Standing}
use Rattle.record_memory.specs.declared.books.Standing.TheVariants.{Handing, Own, Spare, TakenOut, Limbo, Free, Spent}
use Rattle.record_memory.specs.declared.books.View.{View}
use Rattle.record_memory.specs.declared.steps.Step.{Step}
use Rattle.row_words.specs.Refs.{RefParts, LinkParts}
use Rattle.row_words.specs.declared.links.Freed.{Freed}
use Rattle.record_rule.specs.HandingOut.{handed_out, stores_from, fresh_row}
use Rattle.record_rule.specs.Kinds.{idle, is_idle, is_idle_as, share_in, stored_as}
use Rattle.record_rule.specs.Standings.{is_spare}
use Rattle.record_rule.proofs.CountingPlaces.{bit, count_cons}
use Rattle.record_table.specs.declared.nodes.Node.{Node}
use Rattle.reclaim_api.specs.Frames.{AddsSteps, had, is_as}
use Rattle.reclaim_api.specs.declared.holding.Holding.{Holding}
use Rattle.reclaim_api.proofs.Kept.{same_adds}
use Rattle.record_pieces.specs.Manners.{Manner}
use Rattle.record_pieces.specs.OwnSteps.{OneStep}
use Rattle.record_pieces.specs.Giving.{CutsOff, GivesOne, KeepsOne, GivesChains, gave_all, kept_one, gave_one}
use Rattle.record_pieces.specs.Events.{Event, begun, hopped, followed, keyed, looked, exchanged, published, unlinked, stored_link, published_locked, unlinked_locked, took, refused, stored_own, gave_back, retired, placed, ended, Exchanges, HandsOut, KeepsStock, Gets, from_free, from_pool, from_draw, Takes, from_spare, handed, Does}
use Rattle.record_pieces.specs.Trails.{Trail}

-- an event that gets no record and gives none back
abbrev pub Keeps : Event → Type 0
Keeps begun = Unit {0}
Keeps (hopped place at f h seen) = Unit {0}
Keeps (followed place at f r seen) = Unit {0}
Keeps (keyed r key) = Unit {0}
Keeps (looked at f link seen) = Unit {0}
Keeps (exchanged at f expected new call refusal) = Unit {0}
Keeps (published at f expected own call refusal) = Unit {0}
Keeps (unlinked at f gone new refusal) = Unit {0}
Keeps (stored_link at f old new call) = Unit {0}
Keeps (published_locked at f old own call) = Unit {0}
Keeps (unlinked_locked at f old gone new) = Unit {0}
Keeps (took r) = ⊥
Keeps (refused n) = Unit {0}
Keeps (stored_own r f payload) = Unit {0}
Keeps (gave_back r) = ⊥
Keeps (retired r) = Unit {0}
Keeps (placed call reply position) = Unit {0}
Keeps ended = Unit {0}

abbrev pub AllKeep : List Event → Type 0
AllKeep es = AllByRecursion Keeps es

pub both_keep : (es fs : List Event) → AllKeep es → AllKeep fs → AllKeep (es ++ fs)
both_keep [] fs first second = second
both_keep (e ∷ es) fs first second = (first.0, both_keep es fs first.1 second)

pub same_stock : (b : Book) → KeepsStock b b
same_stock b = record { spare = refl; kept = λ r h. h; drawn = refl; reused = refl; births = refl }

pub stock_then : {b c d : Book} → KeepsStock b c → KeepsStock c d → KeepsStock b d
stock_then h k = record { spare = k.spare ∙ h.spare; kept = λ r was. k.kept r (h.kept r was); drawn = k.drawn ∙ h.drawn; reused = k.reused ∙ h.reused; births = k.births ∙ h.births }

-- each relation of a manner only adds steps to those that the caller made
pub record OnlyAdds (m : Manner) (k : Setup) : Type 0 where
  pub enters : (b c : Book) (f : Freed) → m.enters k b f c → AddsSteps b c
  pub leaves : (b c : Book) → m.leaves k b c → AddsSteps b c
  pub bears : (b c : Book) (birth : ℕ) → m.bears k b birth c → AddsSteps b c
  pub reaches : (b c : Book) (place : ℕ) (at : Node) (f : ℕ) (h : Holding) → m.reaches k place at f b h c → AddsSteps b c
  pub puts_away : (b c : Book) (r : RefParts) (f : Freed) → m.puts_away k b r f c → AddsSteps b c
  pub draws : (b c : Book) (r : RefParts) → m.draws k b r c → AddsSteps b c
  pub refuses : (b c : Book) (n : ℕ) → m.refuses k b n c → AddsSteps b c
  pub takes : (b c : Book) (came : Bool) → m.takes k b came c → AddsSteps b c
  pub gives : (b c : Book) (put : Bool) → m.gives k b put c → AddsSteps b c

pub adds_none : (b : Book) → AddsSteps b b
adds_none b = same_adds b b refl

pub adds_both : (b c d : Book) → AddsSteps b c → AddsSteps c d → AddsSteps b d
adds_both b c d x y = (x.0 ++ y.0, y.1 ∙ ap (λ l. l ++ y.0) x.1 ∙ append_assoc b.steps x.0 y.0)

one_adds : (b c : Book) (t : Step) → OneStep b t c → AddsSteps b c
one_adds b c t e = (t ∷ [], e)

exchange_adds : (k : Setup) (at : Node) (f : ℕ) (expected new : LinkParts) (refusal : Option LinkParts) (b c : Book) → Exchanges k at f expected new refusal b c → AddsSteps b c
exchange_adds k at f expected new None b c h = one_adds b c _ h
exchange_adds k at f expected new (Some link) b c h = one_adds b c _ h.3

store_adds : (v : View) (i f value : ℕ) (o : Option Share) → AddsSteps v.own (stored_as v i f value o).own
store_adds v i f value None = adds_none v.own
store_adds v i f value (Some h) = one_adds v.own (stored_as v i f value (Some h)).own _ refl

stores_add : (v : View) (i : ℕ) (row : List ℕ) (n : ℕ) → AddsSteps v.own (stores_from v i row n).own
stores_add v i row zero = adds_none v.own
stores_add v i row (suc n) =
    let w = stores_from v i row n in
    adds_both v.own w.own (stores_from v i row (suc n)).own (stores_add v i row n) (store_adds w i n (get_or row n 0) (share_in w i))

hand_adds : (v : View) (r : RefParts) (birth : ℕ) → AddsSteps v.own (handed_out v r birth).own
unfolding handed_out
hand_adds v r birth = stores_add v r.index (fresh_row r.generation birth) 8

hands_add : (r : RefParts) (birth : ℕ) (b c : Book) → HandsOut r birth b c → AddsSteps b c
hands_add r birth b c h =
    subst (λ (x : Book). AddsSteps x c) h.2 (subst (λ (x : Book). AddsSteps h.0.own x) h.3 (subst (λ (w : View). AddsSteps h.0.own w.own) (sym h.4) (hand_adds h.0 r birth)))

module _ (m : Manner) (k : Setup) where
  pub keeps_one : (e : Event) (b c : Book) → Keeps e → Does m k e b c → KeepsStock b c
  keeps_one begun b c keeps d = d.acts.1
  keeps_one (hopped place at f h seen) b c keeps d = d.acts.2
  keeps_one (followed place at f r seen) b c keeps d = d.acts.2
  keeps_one (keyed r key) b c keeps d = d.acts.1
  keeps_one (looked at f link seen) b c keeps d = d.acts.2
  keeps_one (exchanged at f expected new call refusal) b c keeps d = d.acts.2
  keeps_one (published at f expected own call refusal) b c keeps d = d.acts.2
  keeps_one (unlinked at f gone new refusal) b c keeps d = d.acts.1
  keeps_one (stored_link at f old new call) b c keeps d = d.acts.2
  keeps_one (published_locked at f old own call) b c keeps d = d.acts.2
  keeps_one (unlinked_locked at f old gone new) b c keeps d = d.acts.2
  keeps_one (took r) b c keeps d = absurd keeps
  keeps_one (refused n) b c keeps d = d.acts.stock
  keeps_one (stored_own r f payload) b c keeps d = d.acts.1
  keeps_one (gave_back r) b c keeps d = absurd keeps
  keeps_one (retired r) b c keeps d = d.acts.1
  keeps_one (placed call reply position) b c keeps d = d.acts.2
  keeps_one ended b c keeps d = d.acts.1

  -- so a trail of such events leaves the stock as it was
  pub keeps_all : (es : List Event) (b c : Book) → AllKeep es → Trail m k es b c → KeepsStock b c
  keeps_all [] b c keep t = subst (KeepsStock b) t (same_stock b)
  keeps_all (e ∷ es) b c keep t = stock_then (keeps_one e b t.0 keep.0 t.1) (keeps_all es t.0 c keep.1 t.2)

  -- a trail in two parts
  pub parts : (es fs : List Event) (b d : Book) → Trail m k (es ++ fs) b d → (c : Book) × Trail m k es b c × Trail m k fs c d
  parts [] fs b d t = (b, refl, t)
  parts (e ∷ es) fs b d t = let p = parts es fs t.0 d t.2 in (p.0, (t.0, t.1, p.1), p.2)

  module _ (only : OnlyAdds m k) where
    gets_add : (b : Book) (r : RefParts) (c : Book) → Gets m k b r c → AddsSteps b c
    gets_add b r _ (from_free n c was one counts) = one_adds b c _ one
    gets_add b r _ (from_pool d n c none came was one counts) = adds_both b d c (only.takes b d true came) (one_adds d c _ one)
    gets_add b r _ (from_draw d c none came drew counts) = adds_both b d c (only.takes b d false came) (only.draws d c r drew)

    takes_add : (b : Book) (r : RefParts) (c : Book) → Takes m k b r c → AddsSteps b c
    takes_add b r c (from_spare d birth n bears one taken) = adds_both b d c (only.bears b d birth bears) (one_adds d c _ one)
    takes_add b r c (handed d e birth none gets same bears hands counts left) = adds_both b d c (gets_add b r d gets) (adds_both d e c (only.bears d e birth bears) (hands_add r birth e c hands))

    cut_adds : (b : Book) (last : RefParts) (c : Book) → CutsOff b last c → AddsSteps b c
    cut_adds b last c h = (_, h.steps)

    gives_add : (b c : Book) → GivesOne m.shelves (m.gives k) b c → AddsSteps b c
    gives_add b c h = adds_both b h.between c (cut_adds b h.last h.between h.cut) (only.gives h.between c true h.given)

    kept_adds : (b c : Book) → KeepsOne m.shelves (m.gives k) b c → AddsSteps b c
    kept_adds b c h = adds_both b h.between c (cut_adds b h.last h.between h.cut) (adds_both h.between h.kept c (only.gives h.between h.kept false h.given) (one_adds h.kept c _ h.mended.2))

    chains_add : (f : Freed) (b c : Book) → GivesChains m.shelves (m.gives k) f b c → AddsSteps b c
    chains_add f b c (gave_all _ _ none same) = same_adds b c same
    chains_add f b c (kept_one _ _ some h) = kept_adds b c h
    chains_add f b c (gave_one _ d _ some h more) = adds_both b d c (gives_add b d h) (chains_add f d c more)

    adds_one : (e : Event) (b c : Book) → Does m k e b c → AddsSteps b c
    adds_one begun b c d = let a = d.acts.0 in adds_both b a.0 c (only.enters b a.0 a.1 a.2) (chains_add a.1 a.0 c a.3)
    adds_one (hopped place at f h seen) b c d = only.reaches b c place at f h d.acts.0
    adds_one (followed place at f r seen) b c d = one_adds b c _ d.acts.0.steps
    adds_one (keyed r key) b c d = one_adds b c _ d.acts.0.2
    adds_one (looked at f link seen) b c d = one_adds b c _ d.acts.0.2
    adds_one (exchanged at f expected new call refusal) b c d = exchange_adds k at f expected new refusal b c d.acts.0
    adds_one (published at f expected own call refusal) b c d = exchange_adds k at f expected _ refusal b c d.acts.0
    adds_one (unlinked at f gone new refusal) b c d = exchange_adds k at f _ new refusal b c d.acts.0
    adds_one (stored_link at f old new call) b c d = one_adds b c _ d.acts.0
    adds_one (published_locked at f old own call) b c d = one_adds b c _ d.acts.0
    adds_one (unlinked_locked at f old gone new) b c d = one_adds b c _ d.acts.1
    adds_one (took r) b c d = takes_add b r c d.acts
    adds_one (refused n) b c d = adds_both b d.acts.between c (only.takes b d.acts.between false d.acts.took) (only.refuses d.acts.between c n d.acts.refused)
    adds_one (stored_own r f payload) b c d = one_adds b c _ d.acts.0.1
    adds_one (gave_back r) b c d = one_adds b c _ d.acts.0.2
    adds_one (retired r) b c d = let a = d.acts.0 in adds_both b a.0 c (only.puts_away b a.0 r a.1 a.2) (chains_add a.1 a.0 c a.3)
    adds_one (placed call reply position) b c d = one_adds b c _ d.acts.0.1
    adds_one ended b c d = only.leaves b c d.acts.0

    pub adds_all : (es : List Event) (b c : Book) → Trail m k es b c → AddsSteps b c
    adds_all [] b c t = subst (AddsSteps b) t (adds_none b)
    adds_all (e ∷ es) b c t = adds_both b t.0 c (adds_one e b t.0 t.1) (adds_all es t.0 c t.2)

-- a caller with no idle record has no spare one
spare_idle : (s : Standing) → bit (is_spare s) ≤ bit (is_idle_as s)
spare_idle (Handing n) = omega arith
spare_idle Own = omega arith
spare_idle Spare = omega arith
spare_idle TakenOut = omega arith
spare_idle Limbo = omega arith
spare_idle Free = omega arith
spare_idle Spent = omega arith

spare_one : (o : Option Share) → bit (is_as is_spare o) ≤ bit (is_idle o)
spare_one None = omega arith
spare_one (Some h) = spare_idle h.standing

spare_few : (l : List (Option Share)) → count_by (is_as is_spare) l ≤ count_by is_idle l
spare_few [] = omega arith
spare_few (x ∷ xs) = omega (arith, count_cons (is_as is_spare) x xs, count_cons is_idle x xs, spare_one x, spare_few xs)

pub none_spare : (b : Book) → idle b ≡ 0 → had is_spare b ≡ 0
unfolding idle
none_spare b none = omega (arith, spare_few b.mine, none)
