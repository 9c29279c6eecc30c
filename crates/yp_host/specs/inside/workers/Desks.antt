-- The texts and the hosts of a desk.
use Rattle.std.specs.Prelude.{◌≡◌, ℕ, List, Option}
use Rattle.yp_io.specs.declared.texts.Texts as texts
use Rattle.yp_transfer.specs.HostTable.{HostList}
use Rattle.yp_host.specs.declared.desk.Desk.{Desk}

-- Texts tell this.
abbrev pub TextsTell : {T : Type 0} → texts.Ghosts T → (List ℕ → Option (List ℕ)) → T → Type 0
TextsTell texts text the_texts = (file : List ℕ) → texts.text the_texts file ≡ text file

-- The texts of a desk tell this, and it has these hosts.
pub record IsSupplied {A T C : Type 0} (texts : texts.Ghosts T) (text : List ℕ → Option (List ℕ)) (hosts : HostList)
    (desk : Desk A T C) : Type 0 where
  pub texts_are : TextsTell texts text desk.texts
  pub hosts_are : desk.hosts ≡ hosts
