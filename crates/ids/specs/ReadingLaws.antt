-- Reading and building are inverse: a well-formed state is the one that its view stands for, and every view is the view of its state.
use Rattle.std.specs.Prelude.{ℕ, ◌≡◌, refl, List, [], ◌∷◌, ◌++◌, map, Bool, true, false, ◌||◌, length}
use Rattle.std.proofs.Common.{sym, ap, ap₂, ◌∙◌, arith}
use Rattle.std.proofs.Math.Option.{Option, none, some}
use Rattle.std.proofs.lemmas.List.{length-map}
use Rattle.lists.specs.Defs.{present, given, nought, all, past}
use Rattle.lists.specs.Bools.{conj_each}
use Rattle.lists.specs.Tests.{nought_is}
use Rattle.lists.specs.Held.{take_padded}
use Rattle.lists.specs.Maps.{map_is}
use Rattle.values.specs.Limits.{token_len, table_slots, queue_slots}
use Rattle.values.specs.Cid.{id_formed}
use Rattle.values.specs.Token.{token_formed_of, token_view}
use Rattle.values.specs.declared.token.Token.{Token}
use Rattle.ids_rules.specs.Values.{Item}
use Rattle.ids_rules.specs.View.{View}
use Rattle.tables.specs.Table.{zero_item, live, entries, table_of, queue_of, TableWell, QueueWell}
use Rattle.tables.specs.Laws.{entries_long, queue_is, live_long, table_is}
use Rattle.ids_state.specs.Formed.{well_formed}
use Rattle.ids_state.proofs.Laws.{zeros_is, Facts, facts}
use Rattle.ids_state.specs.declared.state.Ids.{Ids}
use Rattle.ids.specs.Reading.{item_view, view, token_of, path_of, item_of, ids_of, path_formed_of}
use Rattle.tables.specs.declared.items.Item as I
use Rattle.ids_state.specs.Formed as F

-- ---- one item

pub token_back : (t : Token) → token_formed_of t ≡ true → token_of (token_view t) ≡ t
token_back t e = go t.present refl e
  where
    go : (b : Bool) → t.present ≡ b → (b || past nought token_len 0 t.bytes) ≡ true → token_of (given b t.bytes) ≡ t
    go true p q = λ i. record { bytes = t.bytes; present = sym p i }
    go false p q = λ i. record { bytes = sym (zeros_is token_len t.bytes q) i; present = sym p i }

pub path_back : (b : Bool) (p : ℕ) → path_formed_of b p ≡ true → path_of (given b p) ≡ p
path_back true p e = refl
path_back false p e = sym (nought_is p e)

pub present_given : {A : Type 0} (b : Bool) (a : A) → present (given b a) ≡ b
present_given true a = refl
present_given false a = refl

pub item_parts : (x : I.Item) → F.item_formed_of x ≡ true → (id_formed x.cid ≡ true) × (token_formed_of x.token ≡ true) × (path_formed_of x.has_path x.path ≡ true) × ((x.token.present || nought x.seq) ≡ true)
item_parts x e =
    let w = conj_each (id_formed x.cid) (token_formed_of x.token ∷ path_formed_of x.has_path x.path ∷ (x.token.present || nought x.seq) ∷ []) e in
    (w.0, w.1.0, w.1.1.0, w.1.1.1.0)

-- what the reading of an item keeps: its token and its path have their form
pub item_is : (x : I.Item) → token_formed_of x.token ≡ true → path_formed_of x.has_path x.path ≡ true → item_of (item_view x) ≡ x
item_is x t p =
    λ i. record { seq = x.seq; path = path_back x.has_path x.path p i; cid = x.cid; token = token_back x.token t i; has_path = present_given x.has_path x.path i }

pub item_back : (x : I.Item) → F.item_formed_of x ≡ true → item_of (item_view x) ≡ x
item_back x e = let w = item_parts x e in item_is x w.1 w.2

pub items_back : (l : List I.Item) → all F.item_formed_of l ≡ true → map item_of (map item_view l) ≡ l
items_back l e = map_is F.item_formed_of item_view item_of item_back l e

token_round : (o : Option (List ℕ)) → token_view (token_of o) ≡ o
token_round none = refl
token_round (some b) = refl

path_round : (o : Option ℕ) → given (present o) (path_of o) ≡ o
path_round none = refl
path_round (some p) = refl

pub item_round : (x : Item) → item_view (item_of x) ≡ x
item_round x = λ i. record { cid = x.cid; seq = x.seq; token = token_round x.token i; path = path_round x.path i }

items_round : (l : List Item) → map item_view (map item_of l) ≡ l
items_round [] = refl
items_round (x ∷ l) = ap₂ (λ (y : Item) (r : List Item). y ∷ r) (item_round x) (items_round l)

table_round : (l : List Item) → map item_view (live (table_of (map item_of l))) ≡ l
table_round l = ap (map item_view) (take_padded table_slots zero_item (map item_of l)) ∙ items_round l

-- one more item at the end
pub snoc_back : (m : List Item) (l : List I.Item) (y : Item) (x : I.Item) → map item_of m ≡ l → item_of y ≡ x → map item_of (m ++ (y ∷ [])) ≡ l ++ (x ∷ [])
snoc_back m l y x e q = go m ∙ ap₂ (λ (a : List I.Item) (z : I.Item). a ++ (z ∷ [])) e q
  where
    go : (m : List Item) → map item_of (m ++ (y ∷ [])) ≡ map item_of m ++ (item_of y ∷ [])
    go [] = refl
    go (z ∷ m) = ap (λ (r : List I.Item). item_of z ∷ r) (go m)

-- ---- the state

pub view_of : (v : View) → view (ids_of v) ≡ v
view_of v = λ i. record {
  scids = table_round v.scids i;
  dcids = table_round v.dcids i;
  dcid_limit = v.dcid_limit;
  scid_limit = v.scid_limit;
  scid_capacity = v.scid_capacity;
  zero_length_scid = v.zero_length_scid;
  zero_length_dcid = v.zero_length_dcid;
  next_scid_seq = v.next_scid_seq;
  retire_prior_to = v.retire_prior_to;
  largest_peer_retire_prior_to = v.largest_peer_retire_prior_to;
  scids_to_advertise = take_padded queue_slots 0 v.scids_to_advertise i;
  dcids_to_retire = take_padded queue_slots 0 v.dcids_to_retire i;
}

module _ (s : Ids) (w : well_formed s ≡ true) where
  f : Facts s
  f = facts s w

  pub source_well : TableWell s.scids
  source_well = record { few = omega (arith, f.bounds.sources_few, f.bounds.capacity_most); is = f.source_is }

  pub destination_well : TableWell s.dcids
  destination_well = record { few = omega (arith, f.bounds.destinations_few, f.bounds.dcid_limit_most); is = f.destination_is }

  pub advertise_well : QueueWell s.scids_to_advertise
  advertise_well = record { few = f.bounds.advertised_few; is = f.advertise_is }

  pub retire_well : QueueWell s.dcids_to_retire
  retire_well = record { few = f.bounds.retired_few; is = f.retire_is }

  pub scids_back : map item_of (view s).scids ≡ live s.scids
  scids_back = items_back (live s.scids) f.source_items

  pub dcids_back : map item_of (view s).dcids ≡ live s.dcids
  dcids_back = items_back (live s.dcids) f.destination_items

  pub scids_long : length (view s).scids ≡ s.scids.count
  scids_long = length-map (live s.scids) item_view ∙ live_long s.scids source_well

  pub dcids_long : length (view s).dcids ≡ s.dcids.count
  dcids_long = length-map (live s.dcids) item_view ∙ live_long s.dcids destination_well

  pub advertise_long : length (view s).scids_to_advertise ≡ s.scids_to_advertise.count
  advertise_long = entries_long s.scids_to_advertise advertise_well

  pub retire_long : length (view s).dcids_to_retire ≡ s.dcids_to_retire.count
  retire_long = entries_long s.dcids_to_retire retire_well

  source_back : table_of (map item_of (view s).scids) ≡ s.scids
  source_back = ap table_of scids_back ∙ table_is s.scids source_well

  destination_back : table_of (map item_of (view s).dcids) ≡ s.dcids
  destination_back = ap table_of dcids_back ∙ table_is s.dcids destination_well

  advertise_back : queue_of (entries s.scids_to_advertise) ≡ s.scids_to_advertise
  advertise_back = queue_is s.scids_to_advertise advertise_well

  retire_back : queue_of (entries s.dcids_to_retire) ≡ s.dcids_to_retire
  retire_back = queue_is s.dcids_to_retire retire_well

  pub view_is : ids_of (view s) ≡ s
  view_is = λ i. record {
    scids = source_back i;
    dcids = destination_back i;
    scid_capacity = s.scid_capacity;
    dcid_limit = s.dcid_limit;
    scid_limit = s.scid_limit;
    zero_length_scid = s.zero_length_scid;
    zero_length_dcid = s.zero_length_dcid;
    next_scid_seq = s.next_scid_seq;
    retire_prior_to = s.retire_prior_to;
    largest_peer_retire_prior_to = s.largest_peer_retire_prior_to;
    scids_to_advertise = advertise_back i;
    dcids_to_retire = retire_back i;
  }
