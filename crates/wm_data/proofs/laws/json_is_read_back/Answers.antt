use Rattle.wm_data.proofs.ReadBack.{read_data-data_json}
use Rattle.wm_data.proofs.laws.json_is_read_back.Goals as goal

pub returns : goal.returns
returns c = read_data-data_json
