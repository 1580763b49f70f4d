-- docs/RULES.md, "Well-formed IDs", of the view. (Zeros past the counts and in what is absent concern the state that is read, not the view.)
use Rattle.std.specs.Prelude.{ℕ, ◌+◌, ◌%◌, List, [], ◌∷◌, Bool, true, not, ◌&&◌, length, eqb, leb}
use Rattle.lists.specs.Defs.{every, any, all}
use Rattle.values.specs.Limits.{max_dcid_limit, min_scid_limit, max_cids_count, table_slots, max_sequence, queue_slots, capacity_of}
use Rattle.ids_rules.specs.Values.{Item, clashes, item_formed_of}
use Rattle.ids_rules.specs.View.{View}

-- sequences strictly rise, from b on, and stay below n
abbrev pub rising_within : ℕ → ℕ → List Item → Bool
rising_within b n [] = leb b n
rising_within b n (x ∷ l) = leb b x.seq && rising_within (x.seq + 1) n l

-- no two with equal sequence or ID
abbrev pub distinct : List Item → Bool
distinct [] = true
distinct (x ∷ l) = not (any (clashes x) l) && distinct l

-- destination limit 1..16; source limit 2..16, capacity odd, at most 31 and at least 2 x limit - 1
abbrev pub limits : ℕ → ℕ → ℕ → List Bool
limits dcid_limit scid_limit scid_capacity = leb 1 dcid_limit ∷ leb dcid_limit max_dcid_limit ∷ leb min_scid_limit scid_limit ∷ leb scid_limit max_cids_count ∷ eqb (scid_capacity % 2) 1 ∷ leb (capacity_of scid_limit) scid_capacity ∷ leb scid_capacity table_slots ∷ []

-- 1 to capacity items, sequences strictly rising and below next; next is 1..2^62; own Retire Prior To is at most next
abbrev pub source : ℕ → ℕ → ℕ → List Item → List Bool
source scid_capacity next rpt l = leb 1 (length l) ∷ leb (length l) scid_capacity ∷ leb 1 next ∷ leb next max_sequence ∷ leb rpt next ∷ rising_within 0 next l ∷ all item_formed_of l ∷ []

-- 0 to capacity items, no two with equal sequence or ID
abbrev pub destination : ℕ → List Item → List Bool
destination dcid_limit l = leb (length l) (capacity_of dcid_limit) ∷ distinct l ∷ all item_formed_of l ∷ []

-- queues at most 128
abbrev pub queues : List ℕ → List ℕ → List Bool
queues advertise retire = leb (length advertise) queue_slots ∷ leb (length retire) queue_slots ∷ []

abbrev pub well : View → Bool
well v =
    every (limits v.dcid_limit v.scid_limit v.scid_capacity) && every (source v.scid_capacity v.next_scid_seq v.retire_prior_to v.scids)
    && every (destination v.dcid_limit v.dcids) && every (queues v.scids_to_advertise v.dcids_to_retire)
