-- Each list of edges has levels.
use Rattle.std.proofs.Common.{inl, inr, List, [], ◌∷◌, refl}
use Rattle.scad_geom.specs.declared.level.Level.{Level}
use Rattle.scad_geom.specs.declared.level.LeafEdge.{LeafEdge}
use Rattle.scad_geom.specs.Heights.{heights}
use Rattle.scad_geom.proofs.Heights.{heights_positive}
use Rattle.slice_events.specs.Levels.{IsRising, HasHeight, AreLevels}
use Rattle.outline_laws.proofs.Distinct.{weaker, each_is_in, HasDivisor, Climbs, Reaches, HasDistinct, distinct}

-- the height of a level is itself
abbrev pub itself : Level → Level
itself l = l

rising : (ls : List Level) → Climbs itself ls → IsRising ls
rising [] c = tt
rising (l ∷ []) c = tt
rising (l ∷ (u ∷ ls)) c = (c.0.0, rising (u ∷ ls) c.1)

has_height : (ls : List Level) (h : Level) → Reaches itself ls h → HasHeight ls h
has_height [] h c = c
has_height (l ∷ ls) h (inl e) = inl e
has_height (l ∷ ls) h (inr c) = inr (has_height ls h c)

pub record HasLevels (es : List LeafEdge) : Type 0 where
  pub levels : List Level
  pub are_levels : AreLevels es levels

pub levels_of : (es : List LeafEdge) → HasLevels es
levels_of es =
    let hs : List Level = heights es in
    let r : HasDistinct itself hs = distinct itself hs (heights_positive es) in
    record {
      levels = r.all;
      are_levels = record {
        divisors = r.kept (HasDivisor itself) (heights_positive es);
        rising = rising r.all r.climbs;
        sound = r.kept (HasHeight hs) (each_is_in HasHeight (λ h hs. inl refl) (λ h l hs c. inr c) hs);
        complete = weaker (Reaches itself r.all) (HasHeight r.all) (has_height r.all) hs r.complete;
      };
    }
