-- Data is read from its canonical text.
use Rattle.std.proofs.Common.{◌≡◌, List, Some, refl}
use Rattle.wm_data.proofs.ReadBack.{read_data-data_json}
use Rattle.wm_data.proofs.TextsRead.{read-data_text}
use Rattle.wm_data.specs.DataJson.{data_text}
use Rattle.wm_data.specs.Size.{IsData}
use Rattle.wm_data.specs.declared.data.DataEntry.{DataEntry}
use Rattle.wm_machine.proofs.Placings.{bytes_eq-refl}
use Rattle.wm_rows.specs.Fields.{data_in}

pub data_in-data_text : (entries : List DataEntry) → IsData entries → data_in (data_text entries) ≡ Some entries
unfolding data_in
data_in-data_text entries is = rw (read-data_text entries is, read_data-data_json entries is, bytes_eq-refl (data_text entries)) refl
