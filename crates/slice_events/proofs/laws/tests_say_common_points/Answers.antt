use Rattle.slice_events.proofs.Tests.{meets_says_meet, crosses_says_cross}
use Rattle.slice_events.proofs.laws.tests_say_common_points.Goals as goal

pub returns-clause-meeting : goal.returns-clause-meeting
returns-clause-meeting c = meets_says_meet

pub returns-clause-crossing : goal.returns-clause-crossing
returns-clause-crossing c = crosses_says_cross
