-- The bounds allow the tests of the tables.
use Rattle.std.proofs.Common.{arith, sym, ◌∙◌}
use Rattle.ids_state.proofs.Laws.{bounds_of}
use Rattle.ids_state.proofs.test.formed.Goals as goal

pub sources-requires : goal.sources-requires
sources-requires c =
    let t = c.args.t.now in
    let w =
    bounds_of t.dcid_limit t.scid_limit t.scid_capacity t.scids.count t.dcids.count t.next_scid_seq t.retire_prior_to t.scids_to_advertise.count t.dcids_to_retire.count
    (sym c.within.ensures ∙ c.if-within.true) in
    (w.sources_some, omega arith)

pub destinations-requires : goal.destinations-requires
destinations-requires c =
    let t = c.args.t.now in
    let w =
    bounds_of t.dcid_limit t.scid_limit t.scid_capacity t.scids.count t.dcids.count t.next_scid_seq t.retire_prior_to t.scids_to_advertise.count t.dcids_to_retire.count
    (sym c.within.ensures ∙ c.if-within.true) in
    omega arith
