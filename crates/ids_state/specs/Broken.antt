-- A well-formed state, and states that break exactly one conjunct each, by computation. Each is named after its conjunct in docs/RULES.md. (Two parts follow from
-- other conjuncts, so no state breaks them alone: a source limit of at most 16 from 3, and next of at least 1 from 4 and 5.)
use Rattle.std.specs.Prelude.{ℕ, ◌≡◌, refl, [], ◌∷◌, true, false, replicate}
use Rattle.lists.specs.Defs.{padded}
use Rattle.lists.specs.Every.{failing}
use Rattle.values.specs.Limits.{max_cid_len, token_len, table_slots, queue_slots}
use Rattle.values.specs.Token.{zero_token}
use Rattle.values.specs.declared.token.Token.{Token}
use Rattle.values.specs.declared.cid.ConnectionId.{ConnectionId}
use Rattle.tables.specs.Table.{zero_item, table_of, queue_of}
use Rattle.tables.specs.declared.sequences.Queue.{Queue}
use Rattle.tables.specs.declared.items.Item.{Item}
use Rattle.tables.specs.declared.items.Table.{Table}
use Rattle.ids_state.specs.Formed.{well_formed}
use Rattle.ids_state.specs.Conjuncts.{conjuncts}
use Rattle.ids_state.specs.declared.state.Ids.{Ids}

abbrev id : ℕ → ConnectionId
id n = record { bytes = n ∷ 7 ∷ replicate 18 0; len = 8 }

abbrev key : Token
key = record { bytes = replicate token_len 9; present = true }

abbrev item : ℕ → ℕ → Token → Item
item s n k = record { seq = s; path = 3; cid = id n; token = k; has_path = true }

abbrev state : (dcid_limit scid_limit capacity : ℕ) (source destination : Table) (next rpt : ℕ) (advertise retire : Queue) → Ids
state dl sl c s d n r a q = record { scids = s; dcids = d; scid_capacity = c; dcid_limit = dl; scid_limit = sl; zero_length_scid = false; zero_length_dcid = false; next_scid_seq = n; retire_prior_to = r; largest_peer_retire_prior_to = 0; scids_to_advertise = a; dcids_to_retire = q }

-- it is not well formed, and this conjunct alone does not hold
abbrev Breaks : ℕ → Ids → Type 0
Breaks n t = (well_formed t ≡ false) × (failing 1 (conjuncts t) ≡ n ∷ [])

abbrev none : Queue
none = queue_of []

abbrev two : Table
two = table_of (item 0 1 zero_token ∷ item 5 2 key ∷ [])

good : well_formed (state 8 8 15 two two 6 0 (queue_of (4 ∷ 4 ∷ [])) none) ≡ true
good = refl

c1_low : Breaks 1 (state 0 8 15 two (table_of []) 6 0 none none)
c1_low = (refl, refl)

c1_high : Breaks 1 (state 17 8 15 two two 6 0 none none)
c1_high = (refl, refl)

c2 : Breaks 2 (state 8 1 15 two two 6 0 none none)
c2 = (refl, refl)

c3_odd : Breaks 3 (state 8 8 16 two two 6 0 none none)
c3_odd = (refl, refl)

c3_low : Breaks 3 (state 8 8 13 two two 6 0 none none)
c3_low = (refl, refl)

c3_high : Breaks 3 (state 8 8 33 two two 6 0 none none)
c3_high = (refl, refl)

c4_low : Breaks 4 (state 8 8 15 (table_of []) two 6 0 none none)
c4_low = (refl, refl)

c4_high : Breaks 4 (state 8 2 3 (table_of (item 0 1 zero_token ∷ item 1 1 key ∷ item 2 1 key ∷ item 3 1 key ∷ [])) two 6 0 none none)
c4_high = (refl, refl)

c5_rise : Breaks 5 (state 8 8 15 (table_of (item 0 1 zero_token ∷ item 0 2 zero_token ∷ [])) two 5 0 none none)
c5_rise = (refl, refl)

c5_last : Breaks 5 (state 8 8 15 two two 5 0 none none)
c5_last = (refl, refl)

c6 : Breaks 6 (state 1 8 15 two two 6 0 none none)
c6 = (refl, refl)

c7 : Breaks 7 (state 8 8 15 two (table_of (item 5 1 key ∷ item 5 2 key ∷ [])) 6 0 none none)
c7 = (refl, refl)

c8 : Breaks 8 (state 8 8 15 two (table_of (item 0 1 key ∷ item 9 2 key ∷ item 5 1 key ∷ [])) 6 0 none none)
c8 = (refl, refl)

c9_source : Breaks 9 (state 8 8 15 (table_of (item 1 1 zero_token ∷ [])) two 6 0 none none)
c9_source = (refl, refl)

c9_destination : Breaks 9 (state 8 8 15 two (table_of (item 1 1 zero_token ∷ [])) 6 0 none none)
c9_destination = (refl, refl)

c10 : Breaks 10 (state 8 8 15 two two 4611686018427387905 0 none none)
c10 = (refl, refl)

c11 : Breaks 11 (state 8 8 15 two two 6 7 none none)
c11 = (refl, refl)

c12_advertise : Breaks 12 (state 8 8 15 two two 6 0 (record { items = replicate queue_slots 4; count = 129 }) none)
c12_advertise = (refl, refl)

c12_retire : Breaks 12 (state 8 8 15 two two 6 0 none (record { items = replicate queue_slots 4; count = 129 }))
c12_retire = (refl, refl)

c13_length : Breaks 13 (state 8 8 15 two (table_of (record { seq = 0; path = 0; cid = record { bytes = replicate max_cid_len 7; len = 21 }; token = zero_token; has_path = false } ∷ [])) 6 0 none none)
c13_length = (refl, refl)

c13_tail : Breaks 13 (state 8 8 15 two (table_of (record { seq = 0; path = 0; cid = record { bytes = replicate max_cid_len 7; len = 19 }; token = zero_token; has_path = false } ∷ [])) 6 0 none none)
c13_tail = (refl, refl)

c14_token : Breaks 14 (state 8 8 15 two (table_of (item 0 1 (record { bytes = replicate token_len 9; present = false }) ∷ [])) 6 0 none none)
c14_token = (refl, refl)

c14_path : Breaks 14 (state 8 8 15 two (table_of (record { seq = 0; path = 3; cid = id 1; token = zero_token; has_path = false } ∷ [])) 6 0 none none)
c14_path = (refl, refl)

c15_source : Breaks 15 (state 8 8 15 (record { items = padded table_slots zero_item (item 0 1 zero_token ∷ item 5 2 key ∷ []); count = 1 }) two 6 0 none none)
c15_source = (refl, refl)

c15_destination : Breaks 15 (state 8 8 15 two (record { items = padded table_slots zero_item (item 0 1 zero_token ∷ item 5 2 key ∷ []); count = 1 }) 6 0 none none)
c15_destination = (refl, refl)

c16_advertise : Breaks 16 (state 8 8 15 two two 6 0 (record { items = padded queue_slots 0 (4 ∷ 4 ∷ []); count = 1 }) none)
c16_advertise = (refl, refl)

c16_retire : Breaks 16 (state 8 8 15 two two 6 0 none (record { items = padded queue_slots 0 (4 ∷ 4 ∷ []); count = 1 }))
c16_retire = (refl, refl)
