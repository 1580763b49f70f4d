-- Each return is one way through the definition.
use Rattle.std.specs.Prelude.{◌≡◌, ℕ, List, Option as Optional}
use Rattle.std.proofs.Common.{sym, ap, ◌∙◌}
use Rattle.std.proofs.Math.Option.{none}
use Rattle.lists.specs.Defs.{first_with, optional}
use Rattle.ids.specs.Acts.{freed_in}
use Rattle.ids.specs.IssueLaws.{keeps_freed, retires, scid_retire_4, scid_retire_none, scid_retire_2, scid_retire_0}
use Rattle.ids.specs.Reading.{freed_at, freed_of}
use Rattle.ids.specs.ReadingLaws.{view_is}
use Rattle.ids.specs.declared.answers.FreedOut.{FreedOut}
use Rattle.ids_state.specs.declared.state.Ids.{Ids}
use Rattle.tables.specs.Laws.{place_at, place_none}
use Rattle.tables.specs.Table as T
use Rattle.tables.specs.declared.items.Item as I
use Rattle.values.specs.declared.answers.Numbered.{Numbered}
use Rattle.ids.proofs.issues.retire_scid_step.Goals as goal

-- what the search answered, of the state's table
sought : (s : Ids) (seq : ℕ) (l : List I.Item) → l ≡ T.live s.scids → (r : Optional ℕ) → r ≡ optional (first_with (T.has_seq seq) l) → r ≡ optional (first_with (T.has_seq seq) (T.live s.scids))
sought s seq l e r q = q ∙ ap (λ (k : List I.Item). optional (first_with (T.has_seq seq) k)) e

pub returns-then-s-seq : goal.returns-then-s-seq
returns-then-s-seq c =
    let s = c.args.f.ids.now in
    keeps_freed s c.args.f.well 4 (retires s c.args.f.well c.args.seq c.args.packet) (scid_retire_4 s c.args.f.well c.args.seq c.args.packet c.if-s-seq.true) _ (ap (freed_in s) c.none_freed.ensures)

pub returns-in-None : goal.returns-in-None
returns-in-None c =
    let s = c.args.f.ids.now in
    let w = c.args.f.well in
    let absent = place_none s.scids (T.has_seq c.args.seq) _ (sought s c.args.seq _ c.live.ensures _ c.seek_seq.ensures) c.in-None.is in
    ap {B = FreedOut} (λ (d : Numbered). record { ids = s; answer = d }) c.from.ensures ∙ ap (freed_at 0 none) (sym (view_is s w)) ∙ sym (ap freed_of (scid_retire_none s w c.args.seq c.args.packet c.if-s-seq.false absent))

pub returns-in-Some : goal.returns-in-Some
returns-in-Some c =
    let s = c.args.f.ids.now in
    let w = c.args.f.well in
    let place = place_at s.scids (T.has_seq c.args.seq) _ (sought s c.args.seq _ c.live.ensures _ c.seek_seq.ensures) _ c.in-Some.is in
    keeps_freed s w 2 (retires s w c.args.seq c.args.packet) (scid_retire_2 s w c.args.seq c.args.packet c.if-s-seq.false _ place c.if-s-le1.true) _ (ap (freed_in s) c.none_freed-in-Some.ensures)

pub returns-in-Some-2 : goal.returns-in-Some-2
returns-in-Some-2 c =
    let s = c.args.f.ids.now in
    let w = c.args.f.well in
    let place = place_at s.scids (T.has_seq c.args.seq) _ (sought s c.args.seq _ c.live.ensures _ c.seek_seq.ensures) _ c.in-Some.is in
    c.take_step.ensures ∙ sym (ap freed_of (scid_retire_0 s w c.args.seq c.args.packet c.if-s-seq.false _ place c.if-s-le1.false))
