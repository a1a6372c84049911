-- The phrases that are printed.
use Rattle.std.specs.Prelude.{ℕ, List, codes}
use Rattle.tk_base.specs.declared.settings.SettingFault.{SettingFault}
use Rattle.tk_base.specs.declared.settings.SettingFault.TheVariants.{BadCount, BadK, BadEpsilon, BadWeight}

-- which number of the settings is past its limit
abbrev pub setting_fault_text : SettingFault → List ℕ
setting_fault_text BadCount = codes "bad number of objects or monitors"
setting_fault_text BadK = codes "bad k"
setting_fault_text BadEpsilon = codes "bad epsilon"
setting_fault_text BadWeight = codes "bad own weight"
