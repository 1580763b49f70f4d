-- Laws of the challenge lists, as the loops over them and the calls above cite them.
use Rattle.std.specs.Prelude.{ℕ, zero, suc, ◌+◌, ◌-◌, ◌≤◌, ◌<◌, ◌≡◌, refl, List, [], ◌∷◌, ◌++◌, map, Bool, true, false, ◌&&◌, cond, length, take, drop, set, get_or}
use Rattle.std.proofs.Common.{sym, ap, ap₂, ◌∙◌, arith, not-suc-le-zero, length-append, length-drop}
use Rattle.std.proofs.Math.Option.{none, some}
use Rattle.std.proofs.lemmas.List.{length-map}
use Rattle.std.proofs.Math.Bool.{and_assoc, and_comm}
use Rattle.lists.specs.Defs.{front, keep, nought, padded, picked}
use Rattle.lists.specs.Held.{Held, held_count, held_push, held_more, held_of, take_padded, padded_push}
use Rattle.values.specs.Limits.{max_path_chals_recv, max_path_chals_sent}
use Rattle.values.specs.declared.time.Span.{Span}
use Rattle.challenges.specs.declared.received.Received.{Received}
use Rattle.challenges.specs.declared.sent.Challenge.{Challenge}
use Rattle.challenges.specs.declared.sent.Sent.{Sent}
use Rattle.challenges.specs.declared.matches.Spans.{Spans}
use Rattle.challenges.specs.Challenges.{ReceivedWell, SentWell, is_zero, last_size, received_of, sent_of, span_of, spans_of, standing, waiting, zero_challenge}

-- ---- any array with a count: its first element, and the array without it where there is none

pub front_none : {A : Type 0} (l : List A) (n : ℕ) → n ≡ 0 → front (take n l) ≡ none
front_none l n e = ap (λ (k : ℕ). front (take k l)) e

pub front_some : {A : Type 0} (d : A) (l : List A) (n : ℕ) → 0 < n → n ≤ length l → front (take n l) ≡ some (get_or l 0 d)
front_some d l zero h k = absurd (not-suc-le-zero h)
front_some d [] (suc n) h k = absurd (not-suc-le-zero k)
front_some d (x ∷ xs) (suc n) h k = refl

module _ {A : Type 0} {n : ℕ} {z : A} {items : List A} {count : ℕ} (h : Held n z items count) where
  -- nothing is there to be taken out
  pub held_empty : count ≡ 0 → items ≡ padded n z (drop 1 (take count items))
  held_empty e = h.is ∙ ap (λ (k : ℕ). padded n z (take k items)) e ∙ ap (λ (k : ℕ). padded n z (drop 1 (take k items))) (sym e)

  pub held_less : count - 1 ≡ length (drop 1 (take count items))
  held_less = omega (arith, held_count h, length-drop 1 (take count items))

-- ---- the challenges received

module _ (q : Received) (w : ReceivedWell q) where
  pub waiting_long : length (waiting q) ≡ q.count
  waiting_long = held_count w

  pub received_is : received_of (waiting q) ≡ q
  received_is = λ i. record { items = sym w.is i; count = waiting_long i }

  pub received_push_is : (d : ℕ) → q.count < max_path_chals_recv → ◌≡◌ {A = Received} (record { items = set q.items q.count d; count = q.count + 1 }) (received_of (waiting q ++ (d ∷ [])))
  received_push_is d h = λ i. record { items = held_push w d h i; count = held_more w d i }

  pub received_none : q.count ≡ 0 → q ≡ received_of (drop 1 (waiting q))
  received_none e = λ i. record { items = held_empty w e i; count = count i }
    where
      count : q.count ≡ length (drop 1 (waiting q))
      count = omega (arith, held_less w)

module _ (l : List ℕ) (q : Received) (e : q ≡ received_of l) where
  pub waiting_of_lem : waiting q ≡ l
  waiting_of_lem = ap waiting e ∙ take_padded max_path_chals_recv 0 l

-- ---- the challenges sent

module _ (s : Sent) (w : SentWell s) where
  pub standing_long : length (standing s) ≡ s.count
  standing_long = held_count w

  pub sent_is : sent_of (standing s) ≡ s
  sent_is = λ i. record { items = sym w.is i; count = standing_long i }

  pub sent_push_is : (x : Challenge) → s.count < max_path_chals_sent → ◌≡◌ {A = Sent} (record { items = set s.items s.count x; count = s.count + 1 }) (sent_of (standing s ++ (x ∷ [])))
  sent_push_is x h = λ i. record { items = held_push w x h i; count = held_more w x i }

  pub sent_none : s.count ≡ 0 → s ≡ sent_of (drop 1 (standing s))
  sent_none e = λ i. record { items = held_empty w e i; count = count i }
    where
      count : s.count ≡ length (drop 1 (standing s))
      count = omega (arith, held_less w)

-- a list of challenges sent that is known by its list k
module _ (k : List Challenge) (out : Sent) (e : out ≡ sent_of k) where
  pub sent_at : length k ≤ max_path_chals_sent → SentWell out
  sent_at h = rw e (held_of max_path_chals_sent zero_challenge k h)

-- ---- the last, and the spans

pub last_snoc : (z : ℕ) (l : List Challenge) (x : Challenge) → last_size z (l ++ (x ∷ [])) ≡ x.size
last_snoc z [] x = refl
last_snoc z (y ∷ ys) x = last_snoc y.size ys x

map_snoc : {A B : Type 0} (f : A → B) (xs : List A) (x : A) → map f (xs ++ (x ∷ [])) ≡ map f xs ++ (f x ∷ [])
map_snoc f [] x = refl
map_snoc {B = B} f (y ∷ ys) x = ap (λ (r : List B). f y ∷ r) (map_snoc f ys x)

-- spans that are known by their list k, after one more is stored
module _ (k : List ℕ) (out : Spans) (e : out ≡ spans_of k) where
  pub spans_onto : (m : List ℕ) (v : ℕ) (x : Span) → x.us ≡ v → out.count < max_path_chals_sent → m ≡ k ++ (v ∷ [])
      → ◌≡◌ {A = Spans} (record { items = set out.items out.count x; count = out.count + 1 }) (spans_of m)
  spans_onto m v x q h g = λ i. record { items = items i; count = count i }
    where
      at : out.count ≡ length (map span_of k)
      at = ap (λ (s : Spans). s.count) e ∙ sym (length-map k span_of)

      items : set out.items out.count x ≡ padded max_path_chals_sent (span_of 0) (map span_of m)
      items =
          ap₂ (λ (l : List Span) (n : ℕ). set l n x) (ap (λ (s : Spans). s.items) e) at
          ∙ padded_push max_path_chals_sent (span_of 0) (map span_of k) x (omega (arith, at))
          ∙ ap (λ (n : ℕ). padded max_path_chals_sent (span_of 0) (map span_of k ++ (span_of n ∷ []))) q
          ∙ ap (padded max_path_chals_sent (span_of 0)) (sym (ap (map span_of) g ∙ map_snoc span_of k v))

      count : out.count + 1 ≡ length m
      count = omega (arith, ap (λ (s : Spans). s.count) e, ap (length {A = ℕ}) g, length-append k (v ∷ []))

-- ---- a list and its reading: what passes, and what is read of it

module _ {A B : Type 0} (f : A → B) (p : B → Bool) (q : A → Bool) (same : (x : A) → p (f x) ≡ q x) where
  pub keep_view : (l : List A) → keep p (map f l) ≡ map f (keep q l)
  keep_view [] = refl
  keep_view (x ∷ xs) = go (keep_view xs) (p (f x)) (q x) (same x)
    where
      go : keep p (map f xs) ≡ map f (keep q xs) → (a b : Bool) → a ≡ b → cond a (f x ∷ keep p (map f xs)) (keep p (map f xs)) ≡ map f (cond b (x ∷ keep q xs) (keep q xs))
      go e true true t = ap (λ (r : List B). f x ∷ r) e
      go e false false t = e
      go e true false t = let z : ◌≡◌ {A = ℕ} 0 1 = cc in absurd (omega arith)
      go e false true t = let z : ◌≡◌ {A = ℕ} 0 1 = cc in absurd (omega arith)

  pub picked_view : {C : Type 0} (g : B → C) (h : A → C) → ((x : A) → g (f x) ≡ h x) → (l : List A) → picked g p (map f l) ≡ picked h q l
  picked_view {C = C} g h e l = ap (map g) (keep_view l) ∙ read (keep q l)
    where
      read : (m : List A) → map g (map f m) ≡ map h m
      read [] = refl
      read (x ∷ xs) = ap₂ (λ (c : C) (r : List C). c ∷ r) (e x) (read xs)

-- ---- what is gathered of two challenges, field by field

and_gathered : {x y : Bool} (a b c d : Bool) → x ≡ (a && b) → y ≡ (c && d) → (x && y) ≡ ((a && c) && (b && d))
and_gathered a b c d p q = ap₂ ◌&&◌ p q ∙ go a
  where
    go : (a : Bool) → ((a && b) && (c && d)) ≡ ((a && c) && (b && d))
    go true = sym (and_assoc b c d) ∙ ap (λ (x : Bool). x && d) (and_comm b c) ∙ and_assoc c b d
    go false = refl

module _ (a b c : Challenge) where
  pub challenge_gathered : nought c.«data» ≡ (nought a.«data» && nought b.«data») → nought c.size ≡ (nought a.size && nought b.size) → nought c.sent.us ≡ (nought a.sent.us && nought b.sent.us)
      → nought c.deadline.us ≡ (nought a.deadline.us && nought b.deadline.us) → is_zero c ≡ (is_zero a && is_zero b)
  challenge_gathered d z s l =
      and_gathered (nought a.«data» && nought a.size && nought a.sent.us) (nought b.«data» && nought b.size && nought b.sent.us) _ _
      (and_gathered (nought a.«data» && nought a.size) (nought b.«data» && nought b.size) _ _ (and_gathered (nought a.«data») (nought b.«data») _ _ d z) s) l
