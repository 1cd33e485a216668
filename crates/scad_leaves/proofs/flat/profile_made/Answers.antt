-- The profile that is told is the one that was read off the ring of the outline.
use Rattle.std.proofs.Common.{◌≡◌, ℕ, ◌≤◌, List, Vec, length, IfOk, sym, ap, ◌∙◌, subst}
use Rattle.std.specs.Global.{Global}
use Rattle.std.proofs.lemmas.Result.{IfOk-weaker}
use Rattle.scad_modules.specs.Outline.{Pair, points_in, ring_of}
use Rattle.scad_modules.specs.Profile.{profile_of}
use Rattle.scad_modules.specs.View.{Reads, outline}
use Rattle.scad_leaves.proofs.Readings.{argued-read, told-holds}
use Rattle.scad_leaves.proofs.flat.profile_made.Goals as goal

pub returns-clause-does : goal.returns-clause-does
returns-clause-does c = λ s.
    argued-read (λ (v : Vec Pair Global). v.items)
    (profile_of c.args.by.now (ring_of (outline c.args.leaf.shape.now))) c.profile_of.result c.args.leaf.at
    c.args.name.now s c.argued.result
    (subst (λ (ring : List Pair). Reads (λ (v : Vec Pair Global). v.items) (profile_of c.args.by.now ring)
    c.profile_of.result) (c.deref.ensures.value ∙ c.in_ok-ring.ensures.ring) c.profile_of.ensures.reads)
    (c.argued.ensures.argued s)

pub returns-clause-count : goal.returns-clause-count
returns-clause-count c =
    told-holds (λ (v : Vec Pair Global). length v.items ≡ points_in (outline c.args.leaf.shape.now))
    c.profile_of.result c.argued.result c.argued.ensures.same
    (subst (λ (n : ℕ). IfOk c.profile_of.result (λ (v : Vec Pair Global). length v.items ≡ n))
    (ap length c.deref.ensures.value ∙ c.in_ok-ring.ensures.count) c.profile_of.ensures.count)

pub returns-clause-some : goal.returns-clause-some
returns-clause-some c =
    told-holds (λ (v : Vec Pair Global). 3 ≤ length v.items) c.profile_of.result c.argued.result c.argued.ensures.same
    (IfOk-weaker c.profile_of.result (λ (v : Vec Pair Global). length v.items ≡ length c.deref.result.now)
    (λ (v : Vec Pair Global). 3 ≤ length v.items)
    (λ v as_many. subst (λ (n : ℕ). 3 ≤ n) (sym (as_many ∙ ap length c.deref.ensures.value)) c.in_ok-ring.ensures.some)
    c.profile_of.ensures.count)
