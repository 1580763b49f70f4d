-- The source table holds the one item.
use Rattle.std.specs.Prelude.{refl, true, false}
use Rattle.ids.specs.StartLaws.{one_item}
use Rattle.values.specs.Cid.{empty_id}
use Rattle.values.specs.Limits.{min_scid_limit}
use Rattle.tables.specs.declared.items.Item as I
use Rattle.ids.proofs.starts.first_state.Goals as goal

pub returns : goal.returns
returns c =
    let x : I.Item = record { seq = 0; path = c.args.path; cid = c.args.cid; token = c.args.token; has_path = true } in
    let one = one_item x _ c.requires refl c.only-scids.ensures in
    λ i. record { scids = one i; dcids = c.no_items.ensures i; scid_capacity = c.capacity_for.ensures i; dcid_limit = c.args.dcid_limit; scid_limit = min_scid_limit; zero_length_scid = empty_id c.args.cid; zero_length_dcid = false; next_scid_seq = 1; retire_prior_to = 0; largest_peer_retire_prior_to = 0; scids_to_advertise = c.no_entries-empty.ensures i; dcids_to_retire = c.no_entries-empty.ensures i }
