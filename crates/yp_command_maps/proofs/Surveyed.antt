-- What is told of a version that was surveyed.
use Rattle.std.proofs.Common.{◌≡◌, ℕ, List, Option, Some, None, Ok, subst}
use Rattle.std.specs.Prelude.{IfSome}
use Rattle.std.specs.Io.KnownBytes.{Appends}
use Rattle.yp_io.specs.Disk.{History}
use Rattle.yp_io.specs.Streams.{AppendsFront}
use Rattle.yp_version.specs.Versions.{MapVersion}
use Rattle.yp_map_file.specs.declared.survey.Summary.{Summary}
use Rattle.yp_map_file.specs.Commits.{generation_of, winning}
use Rattle.yp_map_file.specs.Slots.{HasGeneration}
use Rattle.yp_map_file.specs.Stands.{stands}
use Rattle.yp_map_file.specs.inside.Summaries.{SumsUp, Surveys}
use Rattle.yp_board.specs.Catalogues.{Name}
use Rattle.yp_command.specs.declared.office.status.Status.{Status}
use Rattle.yp_command.specs.declared.office.status.Status.TheVariants.{Done, WriteFault}
use Rattle.yp_command_maps.specs.Build.{TellsLine}
use Rattle.yp_command_maps.specs.Check.{check_text, line_of, Checks}
use Rattle.yp_command_maps.specs.inside.Check.{summary_line}

-- the line of a summary is that of the version
line_is : (store : Name) (file : List ℕ) (generation : ℕ) (summary : Summary) (version : MapVersion)
    → SumsUp summary version → generation ≡ generation_of (winning file)
    → summary_line store generation summary ≡ line_of store file version
line_is store file generation summary version sums numbered =
    λ i. check_text store (numbered i) (sums.order i) (sums.master i) (sums.rows i) (sums.secure i)

told : (store : Name) (file : List ℕ) (generation : ℕ) (summary : Summary) (status : Status)
    (before after : Option (List ℕ)) → Surveys (stands file) (Ok (Some summary))
    → generation ≡ generation_of (winning file) → TellsLine (summary_line store generation summary) status before after
    → Checks store file status before after
told store file generation summary Done before after found numbered tells = (
  found.0,
  found.1,
  subst (λ (l : List ℕ). Appends before after l) (line_is store file generation summary found.0 found.2 numbered) tells,
)
told store file generation summary WriteFault before after found numbered tells = (
  found.0,
  found.1,
  subst (λ (l : List ℕ). AppendsFront l before after) (line_is store file generation summary found.0 found.2 numbered)
      tells,
)
told store file generation summary _ before after found numbered tells = absurd tells

pub summary_told : (history : Option History) (store : Name) (generation : ℕ) (summary : Summary) (status : Status)
    (before after : Option (List ℕ)) → IfSome history (λ h. Surveys (stands h.state.reads) (Ok (Some summary)))
    → HasGeneration history generation → TellsLine (summary_line store generation summary) status before after
    → IfSome history (λ h. Checks store h.state.reads status before after)
summary_told None store generation summary status before after found numbered tells = tt
summary_told (Some h) store generation summary status before after found numbered tells =
    told store h.state.reads generation summary status before after found numbered tells
