use Rattle.std.proofs.Common.{◌≡◌, ◌∙◌, rules}
use Rattle.json.specs.Print.{print}
use Rattle.serde_json.proofs.Texts.{print-outline}
use Rattle.wm_data.specs.DataJson.{data_json}
use Rattle.wm_data.specs.Tokens.{tokens_of}
use Rattle.wm_data.proofs.data.Data.to_text.Goals as goal

pub returns : goal.returns
returns c =
    let printed : c.text_of.result ≡ print (tokens_of (data_json c.args.self.now)) = search rules in
    printed ∙ print-outline (data_json c.args.self.now)
