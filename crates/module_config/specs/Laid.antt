-- The configuration that a layout holds.
use Rattle.apex_machine.specs.Configuration.{Configuration}
use Rattle.module_config.specs.declared.layout.Layout.{Layout}

-- the fields of a layout as a configuration
abbrev pub laid_out : Layout → Configuration
laid_out layout = record {
  cores = layout.cores;
  frame = layout.frame;
  skew = layout.skew;
  partitions = layout.partitions.items;
  windows = layout.windows.items;
  sampling = layout.sampling.items;
  queuing = layout.queuing.items;
}
