-- docs/RULES.md, "Well-formed paths": its ten conjuncts, one definition for each, and the theorem that `well_formed` is exactly these.
use Rattle.std.specs.Prelude.{◌≡◌, refl, List, [], ◌∷◌, Bool, true, false, ◌&&◌, leb}
use Rattle.std.proofs.Common.{sym, ap, ◌∙◌}
use Rattle.std.proofs.Math.Bool.{and-true}
use Rattle.lists.specs.Defs.{all, every, nought, pairwise, past}
use Rattle.lists.specs.Every.{all_and, all_same}
use Rattle.values.specs.Limits.{max_path_chals_recv, max_path_chals_sent, max_paths_limit}
use Rattle.values.specs.Address.{pair_formed_of}
use Rattle.challenges.specs.Challenges.{is_zero as no_challenge, standing}
use Rattle.paths_state.specs.declared.state.Path.{Path}
use Rattle.paths_state.specs.declared.state.Paths.{Paths}
use Rattle.paths_state.specs.Formed.{apart, live, lost_formed, no_path, path_formed_of, seq_formed, timed, well_formed}

-- ---- of one path

abbrev addresses : Path → Bool
addresses x = pair_formed_of x.pair

abbrev sequences : Path → Bool
sequences x = seq_formed x.has_scid x.scid_seq && seq_formed x.has_dcid x.dcid_seq

abbrev counts : Path → Bool
counts x = leb x.recv_chals.count max_path_chals_recv && leb x.sent_chals.count max_path_chals_sent

abbrev lost : Path → Bool
lost x = lost_formed x.lost_chal x.sent_chals.count

abbrev moments : Path → Bool
moments x = all timed (standing x.sent_chals)

abbrev zeros : Path → Bool
zeros x = past nought max_path_chals_recv x.recv_chals.count x.recv_chals.items && past no_challenge max_path_chals_sent x.sent_chals.count x.sent_chals.items

-- ---- the ten, in order

abbrev pub conjuncts : Paths → List Bool
conjuncts t =
    (leb 1 t.max_paths && leb t.max_paths max_paths_limit)
    ∷ (leb 1 t.count && leb t.count t.max_paths)
    ∷ all addresses (live t)
    ∷ all sequences (live t)
    ∷ all counts (live t)
    ∷ all lost (live t)
    ∷ all moments (live t)
    ∷ all zeros (live t)
    ∷ pairwise apart (live t)
    ∷ past no_path max_paths_limit t.count t.items
    ∷ []

-- ---- they are all

-- a: 3; b, c: 4; d, f: 5; i: 6; g: 7; e, h: 8
order : (a b c d e f g h i : Bool) → (((((a && b) && c) && (d && e)) && (f && (g && h))) && i) ≡ (a && ((b && c) && ((d && f) && (i && (g && (e && h))))))
order false b c d e f g h i = refl
order true false c d e f g h i = refl
order true true false d e f g h i = refl
order true true true false e f g h i = refl
order true true true true false false g h i = refl
order true true true true false true g h false = refl
order true true true true false true false h true = refl
order true true true true false true true h true = refl
order true true true true true false g h i = refl
order true true true true true true false h false = refl
order true true true true true true false h true = refl
order true true true true true true true false false = refl
order true true true true true true true false true = refl
order true true true true true true true true false = refl
order true true true true true true true true true = refl

path_order : (x : Path) → path_formed_of x ≡ (addresses x && (sequences x && (counts x && (lost x && (moments x && zeros x)))))
path_order x =
    order (addresses x) (seq_formed x.has_scid x.scid_seq) (seq_formed x.has_dcid x.dcid_seq)
    (leb x.recv_chals.count max_path_chals_recv) (past nought max_path_chals_recv x.recv_chals.count x.recv_chals.items)
    (leb x.sent_chals.count max_path_chals_sent) (moments x) (past no_challenge max_path_chals_sent x.sent_chals.count x.sent_chals.items) (lost x)

paths_order : (l : List Path) → all path_formed_of l ≡ (all addresses l && (all sequences l && (all counts l && (all lost l && (all moments l && all zeros l)))))
paths_order l =
    all_same path_formed_of (λ x. addresses x && (sequences x && (counts x && (lost x && (moments x && zeros x))))) path_order l
    ∙ all_and addresses (λ x. sequences x && (counts x && (lost x && (moments x && zeros x)))) l
    ∙ ap (λ (b : Bool). all addresses l && b)
    (all_and sequences (λ x. counts x && (lost x && (moments x && zeros x))) l
    ∙ ap (λ (b : Bool). all sequences l && b)
    (all_and counts (λ x. lost x && (moments x && zeros x)) l
    ∙ ap (λ (b : Bool). all counts l && b)
    (all_and lost (λ x. moments x && zeros x) l ∙ ap (λ (b : Bool). all lost l && b) (all_and moments zeros l))))

flat : (a b c d e f g h i j k l : Bool)
    → ((((a && b) && c) && d) && (((e && (f && (g && (h && (i && j))))) && k) && l)) ≡ every ((a && b) ∷ (c && d) ∷ e ∷ f ∷ g ∷ h ∷ i ∷ j ∷ k ∷ l ∷ [])
flat false b c d e f g h i j k l = refl
flat true false c d e f g h i j k l = refl
flat true true false d e f g h i j k l = refl
flat true true true false e f g h i j k l = refl
flat true true true true false f g h i j k l = refl
flat true true true true true false g h i j k l = refl
flat true true true true true true false h i j k l = refl
flat true true true true true true true false i j k l = refl
flat true true true true true true true true false j k l = refl
flat true true true true true true true true true false k l = refl
flat true true true true true true true true true true false l = refl
flat true true true true true true true true true true true l = sym (and-true l)

pub ten : (t : Paths) → well_formed t ≡ every (conjuncts t)
ten t =
    ap (λ (b : Bool). (((leb 1 t.max_paths && leb t.max_paths max_paths_limit) && leb 1 t.count) && leb t.count t.max_paths) && ((b && pairwise apart (live t)) && past no_path max_paths_limit t.count t.items)) (paths_order (live t))
    ∙ flat (leb 1 t.max_paths) (leb t.max_paths max_paths_limit) (leb 1 t.count) (leb t.count t.max_paths)
    (all addresses (live t)) (all sequences (live t)) (all counts (live t)) (all lost (live t)) (all moments (live t)) (all zeros (live t)) (pairwise apart (live t)) (past no_path max_paths_limit t.count t.items)
