use Rattle.wm_data.proofs.TextsRead.{read-data_text}
use Rattle.wm_data.proofs.laws.text_is_read_back.Goals as goal

pub returns : goal.returns
returns c = read-data_text
