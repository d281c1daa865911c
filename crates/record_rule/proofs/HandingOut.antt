-- A handing out, store by store.
use Rattle.std.proofs.Common.{inr, ⊎_elim, ◌≡◌, ℕ, zero, suc, ◌+◌, ◌-◌, ◌<◌, ◌≤◌, ◌^◌, List, [], ◌∷◌, ◌++◌, length, get_or, take, set, length-set, cond, sym, refl, ap, ◌∙◌, subst, arith, Option, Some, None, get_or-set_same, get_or-set_other}
use Rattle.std.proofs.lemmas.List.{set-set, take_more_set, take_more, take_all, get_or-replicate}
use Rattle.std.proofs.lemmas.Bool.{ne_eqb}
use Rattle.record_memory.specs.declared.books.Setup.{Setup}
use Rattle.record_memory.specs.declared.books.View.{View}
use Rattle.record_memory.specs.declared.books.Guard.{Guard}
use Rattle.record_memory.specs.declared.books.Share.{Share}
use Rattle.record_memory.specs.declared.books.Standing.{Standing}
use Rattle.record_memory.specs.declared.books.Standing.TheVariants.{Handing, Own}
use Rattle.row_words.specs.Refs.{RefParts}
use Rattle.row_words.specs.Packing.{own_in, number_in, packed_number, packed_link, IsPackedRef, IsPackedLink, link_in}
use Rattle.row_words.proofs.Packed.{own_in-packed_number, number_in-packed_number}
use Rattle.record_rule.specs.Kinds.{stored, stored_as, share_in, share_after, standing_after, MayStoreAs, MayStore}
use Rattle.record_rule.proofs.Lists.{below_at}
use Rattle.record_rule.proofs.Owned.{at_some}
use Rattle.record_rule.proofs.OpeningWords.{packed_zero, zero_flags}
use Rattle.record_rule.specs.HandingOut.{fresh_row, HasDrawn, stores_from, handed_out, HasOwn}

-- a share that is known is within the list
pub known_within : (l : List (Option Share)) (k : ℕ) (h : Share) → get_or l k None ≡ Some h → k < length l
known_within l k h e = below_at l k (Some h) (at_some l k h e)

-- the share after the first n words of the row are stored
abbrev pub share_then : Share → List ℕ → ℕ → Share
share_then h row zero = h
share_then h row (suc n) = share_after (share_then h row n) n (get_or row n 0)

module _ (v : View) (i : ℕ) (row : List ℕ) (h : Share) (known : share_in v i ≡ Some h) where
  -- the share is within the list
  within : i - 1 < length v.own.mine
  within = known_within v.own.mine (i - 1) h known

  -- the share is the only one that changed
  one_more : (n : ℕ) → share_in (stores_from v i row n) i ≡ Some (share_then h row n) → set (stores_from v i row n).own.mine (i - 1) (Some (share_then h row (suc n))) ≡ set v.own.mine (i - 1) (Some (share_then h row (suc n)))
      → (share_in (stores_from v i row (suc n)) i ≡ Some (share_then h row (suc n))) × ((stores_from v i row (suc n)).own.mine ≡ set v.own.mine (i - 1) (Some (share_then h row (suc n))))
  one_more n here same = let mine : (stores_from v i row (suc n)).own.mine ≡ set v.own.mine (i - 1) (Some (share_then h row (suc n))) = ap (λ o. (stored_as (stores_from v i row n) i n (get_or row n 0) o).own.mine) here ∙ same in
      (ap (λ l. get_or l (i - 1) None) mine ∙ get_or-set_same v.own.mine (i - 1) (Some (share_then h row (suc n))) None within, mine)

  -- so after one store or more
  both_then : (n : ℕ) → 0 < n → (share_in (stores_from v i row n) i ≡ Some (share_then h row n)) × ((stores_from v i row n).own.mine ≡ set v.own.mine (i - 1) (Some (share_then h row n)))
  both_then zero pos = absurd (omega arith)
  both_then (suc zero) pos = one_more 0 known refl
  both_then (suc (suc n)) pos = let b = both_then (suc n) (omega arith) in one_more (suc n) b.0 (ap (λ l. set l (i - 1) (Some (share_then h row (suc (suc n))))) b.1 ∙ set-set v.own.mine (i - 1) (Some (share_then h row (suc n))) (Some (share_then h row (suc (suc n)))))

  -- what is known of the record
  pub share_known : (n : ℕ) → share_in (stores_from v i row n) i ≡ Some (share_then h row n)
  share_known zero = known
  share_known (suc n) = (both_then (suc n) (omega arith)).0

-- a store leaves all of a view but what it says of its own caller
pub same_view : (v : View) (i f n : ℕ) (h : Share) → share_in v i ≡ Some h → (((stored v i f n).setup ≡ v.setup) × ((stored v i f n).present ≡ v.present) × ((stored v i f n).own.caller ≡ v.own.caller) × ((stored v i f n).others ≡ v.others))
same_view v i f n h known = let e : stored v i f n ≡ stored_as v i f n (Some h) = ap (stored_as v i f n) known in (ap (λ (w : View). w.setup) e, ap (λ (w : View). w.present) e, ap (λ (w : View). w.own.caller) e, ap (λ (w : View). w.others) e)

-- the setup stays
pub setup_then : (v : View) (i : ℕ) (row : List ℕ) (h : Share) (known : share_in v i ≡ Some h) (n : ℕ) → (stores_from v i row n).setup ≡ v.setup
setup_then v i row h known zero = refl
setup_then v i row h known (suc n) = (same_view (stores_from v i row n) i n (get_or row n 0) (share_then h row n) (share_known v i row h known n)).0 ∙ setup_then v i row h known n

-- what each store leaves of the share
pub generation_then : (h : Share) (row : List ℕ) (n : ℕ) → (share_then h row n).generation ≡ h.generation
generation_then h row zero = refl
generation_then h row (suc n) = generation_then h row n

-- the standing counts the stores
pub standing_then : (h : Share) (row : List ℕ) (n : ℕ) → h.standing ≡ Handing 0 → n < 8 → (share_then h row n).standing ≡ Handing n
standing_then h row zero e lt = e
standing_then h row (suc n) e lt = ap standing_after (standing_then h row n e (omega arith)) ∙ ap (λ b. cond b Own (Handing (n + 1))) (ne_eqb n 7 (λ z. omega arith)) ∙ ap Handing (omega arith)

-- and is own after the last one
pub standing_last : (h : Share) (row : List ℕ) → h.standing ≡ Handing 0 → (share_then h row 8).standing ≡ Own
standing_last h row e = ap standing_after (standing_then h row 7 e (omega arith))

-- as many words are known
length_then : (h : Share) (row : List ℕ) (n : ℕ) → length (share_then h row n).words ≡ length h.words
length_then h row zero = refl
length_then h row (suc n) = length-set (share_then h row n).words n (get_or row n 0) ∙ length_then h row n

-- the first n are those of the row
words_then : (h : Share) (row : List ℕ) (n : ℕ) → n ≤ length row → n ≤ length h.words → take n (share_then h row n).words ≡ take n row
words_then h row zero a b = refl
words_then h row (suc n) a b = ap (λ (k : ℕ). take k (share_then h row (suc n)).words) (let e : suc n ≡ n + 1 = omega arith in e)
    ∙ take_more_set (share_then h row n).words n (get_or row n 0) (let l = length_then h row n in omega arith)
    ∙ ap (λ l. l ++ get_or row n 0 ∷ []) (words_then h row n (omega arith) (omega arith)) ∙ sym (take_more row n 0 (omega arith)) ∙ ap (λ (k : ℕ). take k row) (let e : n + 1 ≡ suc n = omega arith in e)

-- all are, at the end
pub words_last : (h : Share) (row : List ℕ) → length row ≡ 8 → length h.words ≡ 8 → (share_then h row 8).words ≡ row
words_last h row a b = sym (take_all 8 (share_then h row 8).words (let l = length_then h row 8 in omega arith)) ∙ words_then h row 8 (omega arith) (omega arith) ∙ take_all 8 row (omega arith)

-- word 0 is that of the row
first_word : (h : Share) (row : List ℕ) (n : ℕ) → 0 < n → 0 < length h.words → get_or (share_then h row n).words 0 0 ≡ get_or row 0 0
first_word h row zero pos some = absurd (omega arith)
first_word h row (suc zero) pos some = get_or-set_same h.words 0 (get_or row 0 0) 0 some
first_word h row (suc (suc n)) pos some = get_or-set_other (share_then h row (suc n)).words (suc n) 0 (get_or row (suc n) 0) 0 (λ e. omega arith) ∙ first_word h row (suc n) (omega arith) some

-- the stored words are what a handing out may store
pub fresh_word : (generation birth n : ℕ) → birth < 2 ^ 44 → n < 8 → own_in (get_or (fresh_row generation birth) n 0) ≡ generation
fresh_word generation birth zero b lt = own_in-packed_number generation birth b
fresh_word generation birth (suc n) b lt = ap own_in (get_or-replicate 7 n (packed_number generation 0) 0 (omega arith)) ∙ own_in-packed_number generation 0 (omega arith)

-- the words behind the first are number 0
pub later_word : (generation birth n : ℕ) → 0 < n → n < 8 → get_or (fresh_row generation birth) n 0 ≡ packed_number generation 0
later_word generation birth zero pos lt = absurd (omega arith)
later_word generation birth (suc n) pos lt = get_or-replicate 7 n (packed_number generation 0) 0 (omega arith)

-- so each may be stored in its turn
pub may_store_fresh : (v : View) (r : RefParts) (birth n : ℕ) (d : HasDrawn v r) → birth < 2 ^ 44 → n < 8 → MayStore (share_then d.share (fresh_row r.generation birth) n) n (get_or (fresh_row r.generation birth) n 0)
may_store_fresh v r birth n d b lt = let row = fresh_row r.generation birth in record {
  field = subst (λ (s : Standing). MayStoreAs s n) (sym (standing_then d.share row n d.fresh lt)) refl;
  below = lt;
  own = fresh_word r.generation birth n b lt ∙ sym d.generation ∙ sym (generation_then d.share row n);
  link = λ is. let zero_is = later_word r.generation birth n (⊎_elim (λ e. omega arith) (λ e. omega arith) is) lt in
      (subst IsPackedLink (sym zero_is) (packed_zero r.generation), λ _. ap (λ (z : ℕ). (link_in z).flags) zero_is ∙ zero_flags r.generation);
}

-- once all are stored, the record is the caller's own
pub has_own : (v : View) (r : RefParts) (birth : ℕ) → HasDrawn v r → HasOwn (handed_out v r birth) r (fresh_row r.generation birth)
unfolding handed_out
has_own v r birth d = let row = fresh_row r.generation birth in record {
  within = subst (λ (k : Setup). r.index ≤ k.records) (sym (setup_then v r.index row d.share d.known 8)) d.within;
  share = share_then d.share row 8;
  known = share_known v r.index row d.share d.known 8;
  standing_is = standing_last d.share row d.fresh;
  generation = generation_then d.share row 8 ∙ d.generation;
  row_is = words_last d.share row refl d.eight;
  eight = refl;
}

-- the birth that the reclaimer has to allow
pub birth_then : (v : View) (r : RefParts) (birth n : ℕ) (d : HasDrawn v r) → birth < 2 ^ 44 → 0 < n → n < 8 → number_in (get_or (share_then d.share (fresh_row r.generation birth) n).words 0 0) ≡ birth
birth_then v r birth n d b pos lt = ap number_in (first_word d.share (fresh_row r.generation birth) n pos (let e = d.eight in omega arith)) ∙ number_in-packed_number r.generation birth b

-- the caller's guard stays
guard_then : (v : View) (i : ℕ) (row : List ℕ) (h : Share) (known : share_in v i ≡ Some h) (n : ℕ) → (stores_from v i row n).own.guard ≡ v.own.guard
guard_then v i row h known zero = refl
guard_then v i row h known (suc n) = ap (λ o. (stored_as (stores_from v i row n) i n (get_or row n 0) o).own.guard) (share_known v i row h known n) ∙ guard_then v i row h known n

-- so the reclaimer allows it
pub birth_allowed : (births : Guard → ℕ → Type 0) (v w : View) (r : RefParts) (birth n : ℕ) (d : HasDrawn v r) → birth < 2 ^ 44 → 0 < n → n < 8 → w ≡ stores_from v r.index (fresh_row r.generation birth) n → births v.own.guard birth
    → (h : Share) → share_in w r.index ≡ Some h → births w.own.guard (number_in (get_or h.words 0 0))
birth_allowed births v w r birth n d b pos lt is may h known = let row = fresh_row r.generation birth in
    let same : share_then d.share row n ≡ h = (let e : Some (share_then d.share row n) ≡ Some h = sym (share_known v r.index row d.share d.known n) ∙ ap (λ (x : View). share_in x r.index) (sym is) ∙ known in cc) in
    subst (λ (z : Guard × ℕ). births z.0 z.1) (λ k. (sym (ap (λ (x : View). x.own.guard) is ∙ guard_then v r.index row d.share d.known n) k, (sym (birth_then v r birth n d b pos lt) ∙ ap (λ (x : Share). number_in (get_or x.words 0 0)) same) k)) may

-- the next store of a handing out is one that the caller may make
pub next_store : (v w : View) (r : RefParts) (birth n value : ℕ) (d : HasDrawn v r) → birth < 2 ^ 44 → n < 8 → w ≡ stores_from v r.index (fresh_row r.generation birth) n → value ≡ get_or (fresh_row r.generation birth) n 0
    → (h : Share) × (share_in w r.index ≡ Some h) × MayStore h n value
next_store v w r birth n value d b lt is word = let row = fresh_row r.generation birth in (
  share_then d.share row n,
  ap (λ (x : View). share_in x r.index) is ∙ share_known v r.index row d.share d.known n,
  subst (MayStore (share_then d.share row n) n) (sym word) (may_store_fresh v r birth n d b lt),
)

-- after eight stores it is handed out
pub all_stored : (v w : View) (r : RefParts) (birth n : ℕ) → n ≡ 8 → w ≡ stores_from v r.index (fresh_row r.generation birth) n → w ≡ handed_out v r birth
unfolding handed_out
all_stored v w r birth n last is = is ∙ ap (stores_from v r.index (fresh_row r.generation birth)) last

-- an own record stays own when its owner stores in it
pub own_after : (v : View) (r : RefParts) (row : List ℕ) (f value : ℕ) → HasOwn v r row → HasOwn (stored v r.index f value) r (set row f value)
own_after v r row f value h = let i : ℕ = r.index in let after : Share = share_after h.share f value in let e : stored v i f value ≡ stored_as v i f value (Some h.share) = ap (stored_as v i f value) h.known in record {
  within = subst (λ (w : View). i ≤ w.setup.records) (sym e) h.within;
  share = after;
  known = ap (λ (w : View). share_in w i) e ∙ get_or-set_same v.own.mine (i - 1) (Some after) None (known_within v.own.mine (i - 1) h.share h.known);
  standing_is = ap standing_after h.standing_is;
  generation = h.generation;
  row_is = ap (λ l. set l f value) h.row_is;
  eight = length-set row f value ∙ h.eight;
}

-- a reference without flags is a link
packed_number_link : (own payload : ℕ) → IsPackedRef payload → IsPackedLink (packed_number own payload)
unfolding packed_number packed_link
packed_number_link own payload h = record { own = own; link = record { flags = 0; target = h.target }; in_range = record { flags = omega arith; target = h.in_range }; packed = let e = h.packed in omega arith }

-- what an owner may store in an own record
pub may_store_own : (v : View) (r : RefParts) (row : List ℕ) (f value payload : ℕ) → HasOwn v r row → 3 ≤ f → f < 8 → payload < 2 ^ 44 → (f ≡ 3 → IsPackedRef payload) → value ≡ packed_number r.generation payload → (h : Share) × (share_in v r.index ≡ Some h) × MayStore h f value
may_store_own v r row f value payload h low high fits packed is = (
  h.share,
  h.known,
  record {
    field = subst (λ (s : Standing). MayStoreAs s f) (sym h.standing_is) (inr (low, high));
    below = high;
    own = ap own_in is ∙ own_in-packed_number r.generation payload fits ∙ sym h.generation;
    link = λ field. (⊎_elim (λ one. absurd (omega arith)) (λ three. subst IsPackedLink (sym is) (packed_number_link r.generation payload (packed three))) field, λ one. absurd (omega arith));
  },
)
