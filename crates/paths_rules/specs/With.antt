-- A path with one field changed. Written by tools/records.
use Rattle.std.specs.Prelude.{ℕ, List, Bool}
use Rattle.std.proofs.Math.Option.{Option}
use Rattle.paths_rules.specs.State.{Path, Challenge}

--| with each field of Path, but pair, datagram

abbrev pub with_scid_of : Option ℕ → Path → Path
with_scid_of new p = record { pair = p.pair; datagram = p.datagram; scid = new; dcid = p.dcid; active = p.active; rank = p.rank; received = p.received; sent = p.sent; ask = p.ask; lost = p.lost; largest = p.largest; verified = p.verified; peer_verified = p.peer_verified; credit = p.credit; ping = p.ping; listed = p.listed }

abbrev pub with_dcid_of : Option ℕ → Path → Path
with_dcid_of new p = record { pair = p.pair; datagram = p.datagram; scid = p.scid; dcid = new; active = p.active; rank = p.rank; received = p.received; sent = p.sent; ask = p.ask; lost = p.lost; largest = p.largest; verified = p.verified; peer_verified = p.peer_verified; credit = p.credit; ping = p.ping; listed = p.listed }

abbrev pub with_active_of : Bool → Path → Path
with_active_of new p = record { pair = p.pair; datagram = p.datagram; scid = p.scid; dcid = p.dcid; active = new; rank = p.rank; received = p.received; sent = p.sent; ask = p.ask; lost = p.lost; largest = p.largest; verified = p.verified; peer_verified = p.peer_verified; credit = p.credit; ping = p.ping; listed = p.listed }

abbrev pub with_rank : ℕ → Path → Path
with_rank new p = record { pair = p.pair; datagram = p.datagram; scid = p.scid; dcid = p.dcid; active = p.active; rank = new; received = p.received; sent = p.sent; ask = p.ask; lost = p.lost; largest = p.largest; verified = p.verified; peer_verified = p.peer_verified; credit = p.credit; ping = p.ping; listed = p.listed }

abbrev pub with_received : List ℕ → Path → Path
with_received new p = record { pair = p.pair; datagram = p.datagram; scid = p.scid; dcid = p.dcid; active = p.active; rank = p.rank; received = new; sent = p.sent; ask = p.ask; lost = p.lost; largest = p.largest; verified = p.verified; peer_verified = p.peer_verified; credit = p.credit; ping = p.ping; listed = p.listed }

abbrev pub with_sent : List Challenge → Path → Path
with_sent new p = record { pair = p.pair; datagram = p.datagram; scid = p.scid; dcid = p.dcid; active = p.active; rank = p.rank; received = p.received; sent = new; ask = p.ask; lost = p.lost; largest = p.largest; verified = p.verified; peer_verified = p.peer_verified; credit = p.credit; ping = p.ping; listed = p.listed }

abbrev pub with_ask : Bool → Path → Path
with_ask new p = record { pair = p.pair; datagram = p.datagram; scid = p.scid; dcid = p.dcid; active = p.active; rank = p.rank; received = p.received; sent = p.sent; ask = new; lost = p.lost; largest = p.largest; verified = p.verified; peer_verified = p.peer_verified; credit = p.credit; ping = p.ping; listed = p.listed }

abbrev pub with_lost : ℕ → Path → Path
with_lost new p = record { pair = p.pair; datagram = p.datagram; scid = p.scid; dcid = p.dcid; active = p.active; rank = p.rank; received = p.received; sent = p.sent; ask = p.ask; lost = new; largest = p.largest; verified = p.verified; peer_verified = p.peer_verified; credit = p.credit; ping = p.ping; listed = p.listed }

abbrev pub with_largest : ℕ → Path → Path
with_largest new p = record { pair = p.pair; datagram = p.datagram; scid = p.scid; dcid = p.dcid; active = p.active; rank = p.rank; received = p.received; sent = p.sent; ask = p.ask; lost = p.lost; largest = new; verified = p.verified; peer_verified = p.peer_verified; credit = p.credit; ping = p.ping; listed = p.listed }

abbrev pub with_verified : Bool → Path → Path
with_verified new p = record { pair = p.pair; datagram = p.datagram; scid = p.scid; dcid = p.dcid; active = p.active; rank = p.rank; received = p.received; sent = p.sent; ask = p.ask; lost = p.lost; largest = p.largest; verified = new; peer_verified = p.peer_verified; credit = p.credit; ping = p.ping; listed = p.listed }

abbrev pub with_peer_verified : Bool → Path → Path
with_peer_verified new p = record { pair = p.pair; datagram = p.datagram; scid = p.scid; dcid = p.dcid; active = p.active; rank = p.rank; received = p.received; sent = p.sent; ask = p.ask; lost = p.lost; largest = p.largest; verified = p.verified; peer_verified = new; credit = p.credit; ping = p.ping; listed = p.listed }

abbrev pub with_credit : ℕ → Path → Path
with_credit new p = record { pair = p.pair; datagram = p.datagram; scid = p.scid; dcid = p.dcid; active = p.active; rank = p.rank; received = p.received; sent = p.sent; ask = p.ask; lost = p.lost; largest = p.largest; verified = p.verified; peer_verified = p.peer_verified; credit = new; ping = p.ping; listed = p.listed }

abbrev pub with_ping : Bool → Path → Path
with_ping new p = record { pair = p.pair; datagram = p.datagram; scid = p.scid; dcid = p.dcid; active = p.active; rank = p.rank; received = p.received; sent = p.sent; ask = p.ask; lost = p.lost; largest = p.largest; verified = p.verified; peer_verified = p.peer_verified; credit = p.credit; ping = new; listed = p.listed }

abbrev pub with_listed : Bool → Path → Path
with_listed new p = record { pair = p.pair; datagram = p.datagram; scid = p.scid; dcid = p.dcid; active = p.active; rank = p.rank; received = p.received; sent = p.sent; ask = p.ask; lost = p.lost; largest = p.largest; verified = p.verified; peer_verified = p.peer_verified; credit = p.credit; ping = p.ping; listed = new }
