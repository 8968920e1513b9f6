-- What is wished for, by what a caller passes. Assumes nothing: these are definitions.
use Rattle.std.specs.Prelude.{ℕ, List}
use Rattle.master.specs.declared.Master.{Master as Value}
use Rattle.master.specs.Master.{Master}

abbrev pub wished : List ℕ → ℕ → List ℕ → List ℕ → Master
wished game_code disc_end sizes paths = record { game_code = game_code; disc_end = disc_end; paths = paths; sizes = sizes }

abbrev pub master_of : Value → Master
master_of value = wished value.game_code value.disc_end value.sizes.now value.paths.now
