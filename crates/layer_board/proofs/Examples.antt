-- Two boards, worked by hand and computed from the definitions.
use Rattle.std.proofs.Common.{◌≡◌, true, None, List, [], ◌∷◌, refl}
use Rattle.layer_board.specs.Pass.{spent}
use Rattle.layer_board.specs.Events.{BoardState, Event, Split, Claim, Look, Fail, Finish, Join, opening, after}

abbrev after_all : List Event → BoardState → BoardState
after_all [] s = s
after_all (e ∷ es) s = after_all es (after e s)

-- one pass, three layers, of which layer 0 fails: the others are skipped
one_fails : after_all (Claim 0 ∷ Look 0 ∷ Fail 0 ∷ Claim 0 ∷ Look 0 ∷ Claim 0 ∷ Look 0 ∷ Claim 0 ∷ []) (opening 3)
    ≡ record {
      next = 4;
      least = 0;
      passes = record {
        count = 3;
        given = 1;
        members = 0 ∷ [];
        drawn = 0 ∷ 1 ∷ 2 ∷ [];
        pending = None;
        finished = [];
        failed = 0 ∷ [];
        skipped = 1 ∷ 2 ∷ [];
        ended = true;
      } ∷ [];
    }
one_fails = refl

-- two passes, two layers: the second pass fails layer 1 before the first finishes layer 0, and is joined to it
one_joins : after_all (Split 0 ∷ Claim 0 ∷ Claim 1 ∷ Look 1 ∷ Fail 1 ∷ Look 0 ∷ Finish 0 ∷ Claim 1 ∷ Join 0 1 ∷ [])
    (opening 2)
    ≡ record {
      next = 3;
      least = 1;
      passes = record {
        count = 2;
        given = 2;
        members = 0 ∷ 1 ∷ [];
        drawn = 0 ∷ 1 ∷ [];
        pending = None;
        finished = 0 ∷ [];
        failed = 1 ∷ [];
        skipped = [];
        ended = true;
      } ∷ spent ∷ [];
    }
one_joins = refl
