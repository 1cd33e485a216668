-- The first stay and the later ones are all.
use Rattle.std.proofs.Common.{rules, ◌≡◌, ◌∙◌, ap, w32, to_z, of_z}
use Rattle.std.proofs.lemmas.Result.{on_ok_weaker}
use Rattle.scad_geom.specs.Line.{low, high}
use Rattle.slice_events.specs.Boxes.{left_end}
use Rattle.slice_events.specs.Stays.{bucket_of}
use Rattle.slice_events.proofs.Stays.{stays_made}
use Rattle.slice_events.proofs.stay.push_stays.Goals as goal

pub returns : goal.returns
returns c =
    let e = c.args.e.now.edge in
    let left : to_z w32 (of_z w32 c.left_end-left.result) ≡ left_end e = search (rules, c.left_end-left.ensures) in
    let from : to_z w32 (of_z w32 c.low_y.result) ≡ (low e).y = search (rules, c.low_y.ensures.value) in
    let to : to_z w32 (of_z w32 c.high_y.result) ≡ (high e).y = search (rules, c.high_y.ensures.value) in
    let first : c.bucket_of-first.result ≡ bucket_of c.args.tall (low e).y = c.bucket_of-first.ensures.value ∙ ap (bucket_of c.args.tall) from in
    let last : c.bucket_of-last.result ≡ bucket_of c.args.tall (high e).y = c.bucket_of-last.ensures.value ∙ ap (bucket_of c.args.tall) to in
    on_ok_weaker c.push_later.result
    (λ h. stays_made c.args.stays.now.items c.push.new.self.items c.push_later.new.stays.items c.args.tall c.args.line
    c.bucket_of-first.result c.bucket_of-last.result
    (to_z w32 (of_z w32 c.left_end-left.result)) e left first last c.in_ok-push.ensures.items h)
    c.push_later.ensures
