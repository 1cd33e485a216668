use Rattle.winding_laws.proofs.Forms.{forms_wind_alike}
use Rattle.winding_laws.proofs.laws.forms_wind_alike.Goals as goal

pub returns : goal.returns
returns c = forms_wind_alike
