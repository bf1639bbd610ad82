-- The fields of a warning as a value.
use Rattle.std.specs.Prelude.{option_map}
use Rattle.robots_warnings.specs.{declared.warning.Warning.TheInside.Inside, Message.WarningValue}

abbrev pub warning_value : Inside → WarningValue
warning_value warning =
    record {
      line = warning.line;
      cause = warning.cause;
      about = option_map (λ url. url.now) warning.about;
      detail = warning.detail;
    }
