-- What is wrong with a line, where one of its words is no time.
use Rattle.time_text.specs.declared.faults.TextFault.{TextFault}
use Rattle.log_lines.specs.declared.faults.Fault.{Fault}

abbrev pub fault_of : TextFault → Fault
fault_of (TextFault.Refused why) = Fault.Refused why
fault_of TextFault.NotATime = Fault.NotATime
