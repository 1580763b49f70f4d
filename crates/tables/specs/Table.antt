-- The tables that hold a list: what a table is read as, the one that is built of a list, and the tests of items that its code makes.
use Rattle.std.specs.Prelude.{Option as Optional, Some, None, ℕ, zero, suc, List, [], ◌∷◌, Bool, true, false, not, cond, ◌&&◌, ◌||◌, eqb, leb, length, take}
use Rattle.lists.specs.Defs.{nought, padded, past}
use Rattle.lists.specs.Held.{Held}
use Rattle.values.specs.Limits.{max_cid_len, token_len, table_slots, queue_slots}
use Rattle.values.specs.Cid.{zero_id, same_id}
use Rattle.values.specs.Token.{zero_token, same_token}
use Rattle.values.specs.declared.cid.ConnectionId.{ConnectionId}
use Rattle.values.specs.declared.token.Token.{Token}
use Rattle.values.specs.declared.used.UsedSeq.{UsedSeq}
use Rattle.tables.specs.declared.items.Item.{Item}
use Rattle.tables.specs.declared.items.Table.{Table}
use Rattle.tables.specs.declared.sequences.Queue.{Queue}
use Rattle.tables.specs.declared.lower.Used.{Used}
use Rattle.tables.specs.declared.lookup.Clash.{Clash}
use Rattle.tables.specs.declared.lookup.Clash.TheVariants.{Repeats, Differs}

-- ---- reading and building

abbrev pub zero_item : Item
zero_item = record { seq = 0; path = 0; cid = zero_id; token = zero_token; has_path = false }

abbrev pub zero_pair : UsedSeq
zero_pair = record { seq = 0; path = 0 }

abbrev pub live : Table → List Item
live t = take t.count t.items

abbrev pub entries : Queue → List ℕ
entries q = take q.count q.items

abbrev pub table_of : List Item → Table
table_of l = record { items = padded table_slots zero_item l; count = length l }

abbrev pub queue_of : List ℕ → Queue
queue_of l = record { items = padded queue_slots 0 l; count = length l }

abbrev pub used_of : List UsedSeq → Used
used_of l = record { pairs = padded table_slots zero_pair l; count = length l }

abbrev pub TableWell : Table → Type 0
TableWell t = Held table_slots zero_item t.items t.count

abbrev pub QueueWell : Queue → Type 0
QueueWell q = Held queue_slots 0 q.items q.count

-- ---- tests of one item

-- the item is the zero item
abbrev pub is_zero : Item → Bool
is_zero x =
    nought x.seq
    && nought x.path
    && nought x.cid.len
    && past nought max_cid_len 0 x.cid.bytes
    && past nought token_len 0 x.token.bytes
    && not x.token.present
    && not x.has_path

abbrev pub differs : ℕ → ℕ → Bool
differs x y = not (eqb x y)

abbrev pub seq_of : Item → ℕ
seq_of x = x.seq

abbrev pub has_seq : ℕ → Item → Bool
has_seq s x = eqb s x.seq

abbrev pub has_cid : ConnectionId → Item → Bool
has_cid c x = same_id x.cid c

abbrev pub free : Item → Bool
free x = not x.has_path

abbrev pub at_least : ℕ → Item → Bool
at_least b x = leb b x.seq

abbrev pub below : ℕ → Item → Bool
below b x = not (at_least b x)

abbrev pub low_on_path : ℕ → Item → Bool
low_on_path b x = below b x && x.has_path

abbrev pub pair_of : Item → UsedSeq
pair_of x = record { seq = x.seq; path = x.path }

abbrev pub on_path : ℕ → Item → Item
on_path p x = record { seq = x.seq; path = p; cid = x.cid; token = x.token; has_path = true }

-- ---- a new item against those of the table

-- both are present, and equal
abbrev pub shared_token : Token → Token → Bool
shared_token a b = a.present && same_token a b

-- y has the ID or the sequence of x; has both, and its token
abbrev pub clashing : Item → Item → Bool
clashing x y = same_id y.cid x.cid || eqb y.seq x.seq

abbrev pub repeating : Item → Item → Bool
repeating x y = same_id y.cid x.cid && eqb y.seq x.seq && shared_token y.token x.token

abbrev pub judged : Item → Item → ℕ
judged x y = cond (clashing x y) (cond (repeating x y) 1 2) 0

abbrev pub first_judged : Item → List Item → ℕ
first_judged x [] = 0
first_judged x (y ∷ l) = cond (clashing x y) (cond (repeating x y) 1 2) (first_judged x l)

-- what is judged 0 is no clash
abbrev pub clash_of : ℕ → Optional Clash
clash_of zero = None
clash_of (suc zero) = Some Repeats
clash_of (suc (suc n)) = Some Differs
