-- The calls that read: each way through the definition, as the code answers it.
use Rattle.std.specs.Option.{ok_or, option_copied}
use Rattle.std.specs.Result.{IsErrAnd}
use Rattle.std.specs.Prelude.{Option as Optional, Some, None, Result, Ok, Err, ℕ, ◌≤◌, ◌<◌, ◌≡◌, refl, List, [], ◌∷◌, map, Bool, true, false, cond, ◌&&◌, length, get_or, is_some, IfSome, nat_lt}
use Rattle.std.proofs.Common.{sym, ap, ap₂, ◌∙◌, subst, arith, get_or-take, ltb-true, ltb-false, Bor}
use Rattle.std.proofs.Math.Option.{Option, none, some}
use Rattle.lists.specs.Defs.{maybe, given, optional, all, first, first_with, front, at}
use Rattle.lists.specs.Bools.{and_both}
use Rattle.lists.specs.Held.{get_or_in}
use Rattle.lists.specs.Search.{first_below, optional_some, optional_none}
use Rattle.values.specs.declared.cid.ConnectionId.{ConnectionId}
use Rattle.values.specs.Answers.{numbered_at}
use Rattle.values.specs.declared.answers.Numbered.{Numbered}
use Rattle.ids_rules.specs.Values.{Item, has_seq, has_cid}
use Rattle.ids_rules.specs.View.{Nothing, Whole, Maybe, Found, Frame}
use Rattle.ids_rules.specs.Calls.{says, says2}
use Rattle.tables.specs.Table.{zero_item, live, entries, TableWell, QueueWell}
use Rattle.tables.specs.Laws.{entries_long, live_long}
use Rattle.tables.specs.declared.items.Table.{Table}
use Rattle.tables.specs.declared.sequences.Queue.{Queue}
use Rattle.ids.specs.Reading.{item_view, item_at_of, found_at, frame_at, item_answer_of, found_answer_of, frame_of}
use Rattle.ids.specs.ReadingLaws.{path_back, present_given, item_parts, item_back}
use Rattle.ids.specs.Results.{item_answer}
use Rattle.ids.specs.Carry.{place_holds, nowhere_holds, at_in, at_past, front_some, front_none, all_at}
use Rattle.ids.specs.declared.answers.ItemAnswer.{ItemAnswer}
use Rattle.ids.specs.declared.answers.FoundAnswer.{FoundAnswer}
use Rattle.ids.specs.declared.answers.FrameAnswer.{FrameAnswer}
use Rattle.tables.specs.declared.items.Item as I
use Rattle.values.specs.Results as R
use Rattle.tables.specs.Table as T
use Rattle.ids_state.specs.Formed as F

-- a place that a search gave is below the count
pub place_in : (t : Table) → TableWell t → (p : I.Item → Bool) (i : ℕ) → first_with p (live t) ≡ some i → i < t.count
place_in t w p i e = omega (arith, first_below p (live t) i e, live_long t w)

-- ---- the first that passes, and the answers that are made of it

module _ {A : Type 0} (p : A → Bool) where
  -- it stands at the place that a search gave
  pub first_is : (d : A) (l : List A) (i : ℕ) → Some i ≡ optional (first_with p l) → first p l ≡ some (get_or l i d)
  first_is d l i e =
      place_holds p (λ l i. first p l ≡ some (get_or l i d))
      (λ x xs t. ap (λ (b : Bool). cond b (some x) (first p xs)) t)
      (λ x xs j t k. ap (λ (b : Bool). cond b (some x) (first p xs)) t ∙ k)
      l i (optional_some (first_with p l) i (sym e))

  pub first_missing : (l : List A) → None ≡ optional (first_with p l) → first p l ≡ none
  first_missing l e =
      nowhere_holds p (λ l. first p l ≡ none) refl (λ x xs t k. ap (λ (b : Bool). cond b (some x) (first p xs)) t ∙ k) l (optional_none (first_with p l) (sym e))

  pub first_within : (l : List A) (i : ℕ) → Some i ≡ optional (first_with p l) → i < length l
  first_within l i e = first_below p l i (optional_some (first_with p l) i (sym e))

-- the first of the view is the view of the first
first_view : {A B : Type 0} (f : A → B) (p : B → Bool) (q : A → Bool) → ((x : A) → p (f x) ≡ q x) → (l : List A) → first p (map f l) ≡ maybe (first q l) none (λ x. some (f x))
first_view f p q h [] = refl
first_view {A} {B} f p q h (x ∷ l) = ap₂ (λ (b : Bool) (r : Option B). cond b (some (f x)) r) (h x) (first_view f p q h l) ∙ go (q x)
  where
    go : (b : Bool) → cond b (some (f x)) (maybe (first q l) none (λ y. some (f y))) ≡ maybe (cond b (some x) (first q l)) none (λ y. some (f y))
    go true = refl
    go false = refl

-- what was found is not refused, and what was not found is
module _ {A E : Type 0} (e : E) where
  found_ok : (o : Option A) (a : A) → ◌≡◌ {A = Result A E} (Ok a) (ok_or (optional o) e) → o ≡ some a
  found_ok none a k = cc
  found_ok (some b) a k = let z : a ≡ b = cc in ap some (sym z)

  found_err : (o : Option A) (x : E) → ◌≡◌ {A = Result A E} (Err x) (ok_or (optional o) e) → (o ≡ none) × (x ≡ e)
  found_err none x k = (refl, cc)
  found_err (some b) x k = cc

  pub sought_ok : (o : Option A) (r : Optional A) → r ≡ optional o → (a : A) → ◌≡◌ {A = Result A E} (Ok a) (ok_or r e) → o ≡ some a
  sought_ok o r q a k = found_ok o a (k ∙ ap (λ (x : Optional A). ok_or x e) q)

  pub sought_err : (o : Option A) (r : Optional A) → r ≡ optional o → (x : E) → ◌≡◌ {A = Result A E} (Err x) (ok_or r e) → (o ≡ none) × (x ≡ e)
  sought_err o r q x k = found_err o x (k ∙ ap (λ (y : Optional A). ok_or y e) q)

-- a refusal that is passed on
pub passed_on : {A E : Type 0} (r : Result A E) (e : E) → IsErrAnd r (λ x. x ≡ e) → r ≡ Err e
passed_on (Ok a) e h = absurd h
passed_on (Err x) e h = ap Err h

-- one that was found has the form that all have
first_formed : (p : I.Item → Bool) (l : List I.Item) → all F.item_formed_of l ≡ true → (x : I.Item) → first p l ≡ some x → F.item_formed_of x ≡ true
first_formed p [] f x e = cc
first_formed p (y ∷ l) f x e = let w = and_both (F.item_formed_of y) (all F.item_formed_of l) f in go (p y) e w.0 (λ q. first_formed p l w.1 x q)
  where
    go : (b : Bool) → cond b (some y) (first p l) ≡ some x → F.item_formed_of y ≡ true → (first p l ≡ some x → F.item_formed_of x ≡ true) → F.item_formed_of x ≡ true
    go true q k h = let z : y ≡ x = cc in subst (λ (u : I.Item). F.item_formed_of u ≡ true) z k
    go false q k h = h q

abbrev got : Option Item → ItemAnswer
got o = item_answer_of (maybe o says2 (λ x. says (Whole x)))

abbrev shown : Option Item → FoundAnswer
shown o = found_answer_of (says (maybe o Nothing (λ x. Found x.seq x.path)))

abbrev told : (rpt seq : ℕ) → Option Item → FrameAnswer
told rpt seq o = frame_of (maybe o says2 (λ x. maybe x.token says2 (λ k. says (Frame seq rpt x.cid k))))

abbrev viewed : Option I.Item → Option Item
viewed o = maybe o none (λ x. some (item_view x))

module _ (l : List I.Item) (seq : ℕ) where
  seq_view : (o : Option I.Item) → first (T.has_seq seq) l ≡ o → first (has_seq seq) (map item_view l) ≡ viewed o
  seq_view o e = first_view item_view (has_seq seq) (T.has_seq seq) (λ x. refl) l ∙ ap viewed e

  pub get_ok : all F.item_formed_of l ≡ true → (x : I.Item) → first (T.has_seq seq) l ≡ some x → ◌≡◌ {A = ItemAnswer} (record { refusal = 0; present = true; item = x }) (got (first (has_seq seq) (map item_view l)))
  get_ok f x e =
      ap {B = ItemAnswer} (λ (y : I.Item). record { refusal = 0; present = true; item = y }) (sym (item_back x (first_formed (T.has_seq seq) l f x e)))
      ∙ sym (ap got (seq_view (some x) e))

  pub get_err : first (T.has_seq seq) l ≡ none → item_at_of 2 none ≡ got (first (has_seq seq) (map item_view l))
  get_err e = sym (ap got (seq_view none e))

  module _ (rpt : ℕ) where
    abbrev pub built : Bool → I.Item → FrameAnswer
    built b x = frame_of (maybe (given b x.token.bytes) says2 (λ k. says (Frame seq rpt x.cid k)))

    pub frame_ok : (x : I.Item) (b : Bool) → first (T.has_seq seq) l ≡ some x → x.token.present ≡ b → built b x ≡ told rpt seq (first (has_seq seq) (map item_view l))
    frame_ok x b e p = ap (λ (z : Bool). built z x) (sym p) ∙ sym (ap (told rpt seq) (seq_view (some x) e))

    pub frame_err : first (T.has_seq seq) l ≡ none → frame_at 2 none ≡ told rpt seq (first (has_seq seq) (map item_view l))
    frame_err e = sym (ap (told rpt seq) (seq_view none e))

module _ (l : List I.Item) (cid : ConnectionId) where
  cid_view : (o : Option I.Item) → first (T.has_cid cid) l ≡ o → first (has_cid cid) (map item_view l) ≡ viewed o
  cid_view o e = first_view item_view (has_cid cid) (T.has_cid cid) (λ x. refl) l ∙ ap viewed e

  seen_back : (x : I.Item) → F.item_formed_of x ≡ true → ◌≡◌ {A = FoundAnswer} (record { refusal = 0; present = true; has_path = x.has_path; seq = x.seq; path = x.path }) (shown (some (item_view x)))
  seen_back x e =
      let q = (item_parts x e).2 in
      λ i. record { refusal = 0; present = true; has_path = sym (present_given x.has_path x.path) i; seq = x.seq; path = sym (path_back x.has_path x.path q) i }

  pub find_ok : all F.item_formed_of l ≡ true → (x : I.Item) → first (T.has_cid cid) l ≡ some x
      → ◌≡◌ {A = FoundAnswer} (record { refusal = 0; present = true; has_path = x.has_path; seq = x.seq; path = x.path }) (shown (first (has_cid cid) (map item_view l)))
  find_ok f x e = seen_back x (first_formed (T.has_cid cid) l f x e) ∙ sym (ap shown (cid_view (some x) e))

  pub find_err : first (T.has_cid cid) l ≡ none → found_at 0 none ≡ shown (first (has_cid cid) (map item_view l))
  find_err e = sym (ap shown (cid_view none e))

-- of a call with nothing else to test
pub passes : {b : Bool} → b ≡ true → (b && true) ≡ true
passes {b} e = ap (λ (t : Bool). t && true) e

module _ (q : Queue) (w : QueueWell q) where
  pub next_some : 0 < q.count → ◌≡◌ {A = Numbered} (record { refusal = 0; present = true; number = get_or q.items 0 0 }) (numbered_at 0 (front (entries q)))
  next_some h =
      ap {B = Numbered} (λ (n : ℕ). record { refusal = 0; present = true; number = n }) (sym (get_or-take q.count q.items 0 0 h))
      ∙ sym (ap (numbered_at 0) (front_some (entries q) (omega (arith, entries_long q w))))

  pub next_none : q.count ≤ 0 → numbered_at 0 none ≡ numbered_at 0 (front (entries q))
  next_none h = sym (ap (numbered_at 0) (front_none (entries q) (omega (arith, entries_long q w))))

-- an option of the code as the answer of a call
pub numbered_is : (r : Optional ℕ) (o : Option ℕ) → r ≡ optional o → R.numbered_of (Ok r) ≡ numbered_at 0 o
numbered_is r none e = ap (λ (x : Optional ℕ). R.numbered_of (Ok x)) e
numbered_is r (some n) e = ap (λ (x : Optional ℕ). R.numbered_of (Ok x)) e

-- the item at a place
abbrev shown_at : Option Item → ItemAnswer
shown_at o = item_answer_of (says (Maybe o))

at_formed : (l : List I.Item) → all F.item_formed_of l ≡ true → (i : ℕ) (r : Optional (Bor I.Item)) → (is_some r ≡ nat_lt i (length l)) × IfSome r (λ b. b.now ≡ get_or l i b.now)
    → item_answer (Ok (option_copied r)) ≡ shown_at (at i (map item_view l))
at_formed l f i None e = sym (ap shown_at (at_past item_view i l (ltb-false i (length l) (sym e.0))))
at_formed l f i (Some b) e =
    let h = ltb-true i (length l) (sym e.0) in
    let x = get_or l i zero_item in
    let q : b.now ≡ x = e.1 ∙ get_or_in l i b.now zero_item h in
    ap {B = ItemAnswer} (λ (y : I.Item). record { refusal = 0; present = true; item = y }) (q ∙ sym (item_back x (all_at F.item_formed_of zero_item l i f h)))
    ∙ sym (ap shown_at (at_in item_view zero_item i l h))

-- of a list l that is known as m: r lends its item, and o is a copy of that
pub at_ok : (l m : List I.Item) → l ≡ m → all F.item_formed_of m ≡ true → (i : ℕ) (r : Optional (Bor I.Item)) → (is_some r ≡ nat_lt i (length l)) × IfSome r (λ b. b.now ≡ get_or l i b.now)
    → (o : Optional I.Item) → o ≡ option_copied r → item_answer (Ok o) ≡ shown_at (at i (map item_view m))
at_ok l m e f i r h o q =
    ap (λ (x : Optional I.Item). item_answer (Ok x)) q
    ∙ at_formed l (ap (all F.item_formed_of) e ∙ f) i r h
    ∙ ap (λ (k : List I.Item). shown_at (at i (map item_view k))) e
